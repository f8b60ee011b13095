use Rattle.std.proofs.Common.{◌≡◌, ◌+◌, ◌≤◌, length, ◌-◌, ◌*◌}
use Rattle.bc_data.specs.Seen.{seen}
use Rattle.bc_data.specs.SourceTree.{Nothing}
use Rattle.bc_data.specs.View.{stat_views}
use Rattle.bc_law_grammar.specs.Machine.{Stats, Stack, levels, run}
use Rattle.bc_parse_stat.proofs.statement.+stat.Given as goal

abbrev pub decreases-statements : goal.decreases-statements
decreases-statements l = (64 - l.base) * 8 + 5

abbrev pub decreases-statement : goal.decreases-statement
decreases-statement l = (64 - l.base) * 8 + 4

abbrev pub decreases-keyword_statement : goal.decreases-keyword_statement
decreases-keyword_statement l = (64 - l.base) * 8 + 3

abbrev pub decreases-block : goal.decreases-block
decreases-block l = (64 - l.base) * 8 + 1

abbrev pub decreases-braces : goal.decreases-braces
decreases-braces l = (64 - l.base) * 8

abbrev pub decreases-while_statement : goal.decreases-while_statement
decreases-while_statement l = (64 - l.base) * 8 + 2

abbrev pub decreases-if_statement : goal.decreases-if_statement
decreases-if_statement l = (64 - l.base) * 8 + 2

abbrev pub decreases-if_behind : goal.decreases-if_behind
decreases-if_behind l = (64 - l.base) * 8 + 1

abbrev pub invariant-statements-loop-close : goal.invariant-statements-loop-close
invariant-statements-loop-close l = record {
  answers : (st : Stack) → levels st ≡ l.base → run 64 (Stats Nothing st) (seen l.text l.tokens) ≡ run 64 (Stats (stat_views l.read.list.items Nothing) st) (seen l.text l.read.rest.now);
  shorter : length l.read.rest.now ≤ length l.tokens;
}

abbrev pub decreases-statements-loop-close : goal.decreases-statements-loop-close
decreases-statements-loop-close l = length l.read.rest.now

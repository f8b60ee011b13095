use Rattle.std.proofs.Common.{◌≡◌, ◌≤◌, length}
use Rattle.bc_data.specs.Seen.{seen}
use Rattle.bc_data.specs.SourceTree.{Sequence, Empty, Change}
use Rattle.bc_data.specs.View.{view_change, onto_by}
use Rattle.bc_law_grammar.specs.Machine.{State, Changing, run}
use Rattle.bc_parse_stat.proofs.exit.changes.Given as goal

abbrev pub invariant-loop-read : goal.invariant-loop-read
invariant-loop-read l = record {
  answers : (onward : Sequence Change → State) → run 64 (Changing Empty onward) (seen l.text l.tokens) ≡ run 64 (Changing (onto_by view_change l.read.list.items Empty) onward) (seen l.text l.read.rest.now);
  shorter : length l.read.rest.now ≤ length l.tokens;
}

abbrev pub decreases-loop-read : goal.decreases-loop-read
decreases-loop-read l = length l.read.rest.now

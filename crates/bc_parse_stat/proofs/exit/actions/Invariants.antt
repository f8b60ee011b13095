use Rattle.std.proofs.Common.{◌≡◌, ◌≤◌, length, false}
use Rattle.bc_data.specs.Seen.{seen}
use Rattle.bc_data.specs.SourceTree.{Sequence, Empty}
use Rattle.bc_data.specs.View.{onto}
use Rattle.bc_data.specs.declared.tree.ActionText.{ActionText}
use Rattle.bc_law_grammar.specs.Machine.{State, Acting, run}
use Rattle.bc_parse_stat.proofs.exit.actions.Given as goal

abbrev pub invariant-loop-read : goal.invariant-loop-read
invariant-loop-read l = record {
  answers : (more last : Sequence ActionText → State) → run 64 (Acting Empty more last) (seen l.text l.tokens) ≡ run 64 (Acting (onto l.read.list.items Empty) more last) (seen l.text l.read.rest.now);
  more : l.read.is_last ≡ false;
  shorter : length l.read.rest.now ≤ length l.tokens;
}

abbrev pub decreases-loop-read : goal.decreases-loop-read
decreases-loop-read l = length l.read.rest.now

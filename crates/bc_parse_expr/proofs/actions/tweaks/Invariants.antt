use Rattle.std.proofs.Common.{◌≡◌, ◌≤◌, length}
use Rattle.bc_data.specs.Seen.{seen}
use Rattle.bc_data.specs.SourceTree.{Sequence, Empty}
use Rattle.bc_data.specs.View.{onto}
use Rattle.bc_data.specs.declared.tree.ActionText.{ActionText}
use Rattle.bc_law_grammar.specs.Machine.{State, Tweaking, run}
use Rattle.bc_parse_expr.proofs.actions.tweaks.Given as goal

abbrev pub invariant-loop-read : goal.invariant-loop-read
invariant-loop-read l = record {
  answers : (next : Sequence ActionText → State) → run 64 (Tweaking Empty next) (seen l.text l.tokens) ≡ run 64 (Tweaking (onto l.read.list.items Empty) next) (seen l.text l.read.rest.now);
  shorter : length l.read.rest.now ≤ length l.tokens;
}

abbrev pub decreases-loop-read : goal.decreases-loop-read
decreases-loop-read l = length l.read.rest.now

use Rattle.std.proofs.Common.{◌≡◌, ◌≤◌, length, false}
use Rattle.bc_data.specs.Seen.{seen}
use Rattle.bc_data.specs.SourceTree.{Sequence, Empty}
use Rattle.bc_data.specs.View.{onto}
use Rattle.bc_data.specs.declared.tree.Bind.{Bind}
use Rattle.bc_law_grammar.specs.Machine.{State, Binding, run}
use Rattle.bc_parse.proofs.item.binds.Given as goal

abbrev pub invariant-loop-read : goal.invariant-loop-read
invariant-loop-read l = record {
  answers : (more last : Sequence Bind → State) → run 64 (Binding Empty more last) (seen l.text l.tokens) ≡ run 64 (Binding (onto l.read.list.items Empty) more last) (seen l.text l.read.rest.now);
  several : l.read.is_last ≡ false;
  shorter : length l.read.rest.now ≤ length l.tokens;
}

abbrev pub decreases-loop-read : goal.decreases-loop-read
decreases-loop-read l = length l.read.rest.now

use Rattle.std.proofs.Common.{◌≡◌, ◌≤◌, length, false}
use Rattle.bc_data.specs.Seen.{seen}
use Rattle.bc_data.specs.SourceTree.{Sequence, Empty}
use Rattle.bc_data.specs.View.{onto}
use Rattle.bc_data.specs.declared.tree.Formal.{Formal}
use Rattle.bc_law_grammar.specs.Machine.{State, Declaring, run}
use Rattle.bc_parse.proofs.item.formals.Given as goal

abbrev pub invariant-loop-read : goal.invariant-loop-read
invariant-loop-read l = record {
  answers : (onward : Sequence Formal → State) → run 64 (Declaring Empty onward) (seen l.text l.tokens) ≡ run 64 (Declaring (onto l.read.list.items Empty) onward) (seen l.text l.read.rest.now);
  shorter : length l.read.rest.now ≤ length l.tokens;
}

abbrev pub decreases-loop-read : goal.decreases-loop-read
decreases-loop-read l = length l.read.rest.now

use Rattle.std.proofs.Common.{◌≡◌, ◌≤◌, length, false}
use Rattle.bc_data.specs.Seen.{seen}
use Rattle.bc_data.specs.SourceTree.{Sequence, Empty, Param}
use Rattle.bc_data.specs.View.{view_param, onto_by}
use Rattle.bc_law_grammar.specs.Machine.{State, Parameters, run}
use Rattle.bc_parse.proofs.item.params.Given as goal

abbrev pub invariant-loop-read : goal.invariant-loop-read
invariant-loop-read l = record {
  answers : (onward : Sequence Param → State) → run 64 (Parameters Empty onward) (seen l.text l.tokens) ≡ run 64 (Parameters (onto_by view_param l.read.list.items Empty) onward) (seen l.text l.read.rest.now);
  shorter : length l.read.rest.now ≤ length l.tokens;
}

abbrev pub decreases-loop-read : goal.decreases-loop-read
decreases-loop-read l = length l.read.rest.now

use Rattle.std.proofs.Common.{◌≡◌, ◌≤◌, length, false}
use Rattle.bc_data.specs.Seen.{seen}
use Rattle.bc_data.specs.SourceTree.{Sequence, Empty, Member}
use Rattle.bc_data.specs.View.{view_member, onto_by}
use Rattle.bc_law_grammar.specs.Machine.{State, Members, run}
use Rattle.bc_parse.proofs.item.members.Given as goal

abbrev pub invariant-loop-close : goal.invariant-loop-close
invariant-loop-close l = record {
  answers : (onward : Sequence Member → State) → run 64 (Members Empty onward) (seen l.text l.tokens) ≡ run 64 (Members (onto_by view_member l.read.list.items Empty) onward) (seen l.text l.read.rest.now);
  shorter : length l.read.rest.now ≤ length l.tokens;
}

abbrev pub decreases-loop-close : goal.decreases-loop-close
decreases-loop-close l = length l.read.rest.now

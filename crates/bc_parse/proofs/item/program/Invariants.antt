use Rattle.std.proofs.Common.{◌≡◌, length}
use Rattle.bc_data.specs.Seen.{seen}
use Rattle.bc_data.specs.SourceTree.{Empty}
use Rattle.bc_data.specs.View.{view_text_item, onto_by}
use Rattle.bc_law_grammar.specs.Machine.{Items, run}
use Rattle.bc_parse.proofs.item.program.Given as goal

abbrev pub invariant-loop-list : goal.invariant-loop-list
invariant-loop-list l = run 64 (Items Empty) (seen l.text l.tokens) ≡ run 64 (Items (onto_by view_text_item l.list.items Empty)) (seen l.text l.rest)

abbrev pub decreases-loop-list : goal.decreases-loop-list
decreases-loop-list l = length l.rest

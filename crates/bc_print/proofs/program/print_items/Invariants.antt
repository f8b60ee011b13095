use Rattle.std.proofs.Common.{◌≡◌, ◌++◌, take}
use Rattle.bc_data.specs.SourceTree.{Empty}
use Rattle.bc_data.specs.View.{onto_by, view_text_item}
use Rattle.bc_print.specs.Canonical.{program_text}
use Rattle.bc_print.proofs.program.print_items.Given as goal

abbrev pub invariant-loop-item : goal.invariant-loop-item
invariant-loop-item l = l.out ≡ l.fn.out ++ program_text (onto_by view_text_item (take l.item-index l.items) Empty)

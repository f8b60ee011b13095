use Rattle.std.proofs.Common.{◌≡◌, take}
use Rattle.bc_data.specs.SourceTree.{Empty}
use Rattle.bc_data.specs.View.{onto_by, view_text_item}
use Rattle.bc_types_rules.specs.Got.{Gives}
use Rattle.bc_types_rules.specs.Numbering.{declare_item, startup_spaces, try_fold}
use Rattle.bc_names.proofs.names.names_of.Given as goal

abbrev pub invariant-loop-item : goal.invariant-loop-item
invariant-loop-item l = try_fold declare_item startup_spaces (onto_by view_text_item (take l.item-index l.items) Empty) ≡ Gives l.names

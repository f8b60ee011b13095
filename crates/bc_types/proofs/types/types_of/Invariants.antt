use Rattle.std.proofs.Common.{◌≡◌, take}
use Rattle.bc_data.specs.SourceTree.{Empty}
use Rattle.bc_data.specs.View.{onto_by, view_text_item}
use Rattle.bc_types_rules.specs.Declared.{types_of}
use Rattle.bc_types_rules.specs.Numbering.{number_of}
use Rattle.bc_types_expr.specs.Looks.{all_types_seen}
use Rattle.bc_types.proofs.types.types_of.Given as goal

abbrev pub invariant-loop-item : goal.invariant-loop-item
invariant-loop-item l = all_types_seen l.types.items ≡ types_of (number_of l.names.classes) (onto_by view_text_item (take l.item-index l.items) Empty)

use Rattle.std.proofs.Common.{◌≡◌, take}
use Rattle.bc_data.specs.SourceTree.{Empty}
use Rattle.bc_data.specs.View.{onto_by, view_text_item}
use Rattle.bc_types_rules.specs.Got.{Gives}
use Rattle.bc_types_rules.specs.Walk.{walk}
use Rattle.bc_types_expr.specs.Looks.{looks}
use Rattle.bc_types.specs.Parts.{parts_seen}
use Rattle.bc_types.proofs.walk.walk.Given as goal

abbrev pub invariant-loop-item : goal.invariant-loop-item
invariant-loop-item l = walk (looks l.table) (onto_by view_text_item (take l.item-index l.items) Empty) ≡ Gives (parts_seen l.parts)

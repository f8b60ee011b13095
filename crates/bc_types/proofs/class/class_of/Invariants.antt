use Rattle.std.proofs.Common.{◌≡◌, take}
use Rattle.bc_data.specs.SourceTree.{Empty}
use Rattle.bc_data.specs.View.{onto_by, view_member}
use Rattle.bc_types_rules.specs.Got.{Gives}
use Rattle.bc_types_rules.specs.Numbering.{try_fold}
use Rattle.bc_types_rules.specs.Walk.{check_member, empty_class}
use Rattle.bc_types_expr.specs.Looks.{looks}
use Rattle.bc_types.proofs.class.class_of.Given as goal

abbrev pub invariant-loop-member : goal.invariant-loop-member
invariant-loop-member l = try_fold (check_member (looks l.table) l.me) (empty_class l.name) (onto_by view_member (take l.member-index l.members) Empty) ≡ Gives l.class

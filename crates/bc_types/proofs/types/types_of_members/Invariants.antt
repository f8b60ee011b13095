use Rattle.std.proofs.Common.{◌≡◌, take}
use Rattle.bc_data.specs.SourceTree.{Empty}
use Rattle.bc_data.specs.View.{onto_by, view_member}
use Rattle.bc_types_rules.specs.Declared.{fold_all, no_types, with_member}
use Rattle.bc_types_rules.specs.Numbering.{number_of}
use Rattle.bc_types_expr.specs.Looks.{class_types_seen}
use Rattle.bc_types.proofs.types.types_of_members.Given as goal

abbrev pub invariant-loop-member : goal.invariant-loop-member
invariant-loop-member l = class_types_seen l.types ≡ fold_all (with_member (number_of l.names.classes)) no_types (onto_by view_member (take l.member-index l.members) Empty)

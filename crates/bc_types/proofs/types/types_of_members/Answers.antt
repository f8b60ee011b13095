use Rattle.std.proofs.Common.{◌<◌, ◌∙◌, length, arith}
use Rattle.bc_data.specs.View.{view_member}
use Rattle.bc_types_rules.specs.Declared.{no_types, with_member}
use Rattle.bc_types_rules.specs.Numbering.{number_of}
use Rattle.bc_types_expr.specs.Looks.{class_types_seen}
use Rattle.bc_types.proofs.Folds.{fold_next}
use Rattle.bc_types.proofs.types.types_of_members.Goals as goal

pub loop-member-preserved : goal.loop-member-preserved
loop-member-preserved c =
    let within : c.loop-member.member-index < length c.args.members.now = omega arith in
    c.in_ok-add_member.ensures
    ∙ fold_next (with_member (number_of c.args.names.now.classes)) view_member no_types (class_types_seen c.loop-member.types) c.args.members.now c.loop-member.member-index c.member-item.result within c.member-item.is c.loop-member.invariant

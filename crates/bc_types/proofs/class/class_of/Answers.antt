use Rattle.std.proofs.Common.{◌<◌, length, arith}
use Rattle.std.proofs.lemmas.Result.{err_from_is_err_and}
use Rattle.bc_data.specs.View.{view_member}
use Rattle.bc_types_rules.specs.Walk.{check_member, empty_class}
use Rattle.bc_types_expr.specs.Looks.{looks}
use Rattle.bc_names.proofs.Walk.{walk_on, walk_stops}
use Rattle.bc_types.proofs.class.class_of.Goals as goal

pub returns-in_err-add_member : goal.returns-in_err-add_member
returns-in_err-add_member c =
    let within : c.loop-member.member-index < length c.args.members.now = omega arith in
    let p = err_from_is_err_and c.from_residual-in_err-add_member.result c.from_residual-in_err-add_member.ensures.1 in
    rw (p.1, p.2) (walk_stops (check_member (looks c.args.table.now) c.args.me) view_member c.in_err-add_member.field-0.0 (empty_class c.args.name.now) c.loop-member.class c.args.members.now c.loop-member.member-index c.member-item.result within c.member-item.is c.loop-member.invariant c.in_err-add_member.ensures)

pub loop-member-preserved : goal.loop-member-preserved
loop-member-preserved c =
    let within : c.loop-member.member-index < length c.args.members.now = omega arith in
    walk_on (check_member (looks c.args.table.now) c.args.me) view_member (empty_class c.args.name.now) c.loop-member.class _ c.args.members.now c.loop-member.member-index c.member-item.result within c.member-item.is c.loop-member.invariant c.in_ok-add_member.ensures

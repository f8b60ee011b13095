use Rattle.std.proofs.Common.{◌<◌, length, arith}
use Rattle.std.proofs.lemmas.Result.{err_from_is_err_and}
use Rattle.bc_data.specs.View.{view_member}
use Rattle.bc_types_rules.specs.Numbering.{declare_member, no_members}
use Rattle.bc_names.proofs.Walk.{walk_on, walk_stops}
use Rattle.bc_names.proofs.members.members_of.Goals as goal

pub returns-in_err-declare : goal.returns-in_err-declare
returns-in_err-declare c =
    let within : c.loop-member.member-index < length c.args.members.now = omega arith in
    let p = err_from_is_err_and c.from_residual.result c.from_residual.ensures.1 in
    rw (p.1, p.2) (walk_stops declare_member view_member c.in_err-declare.field-0.0 no_members c.loop-member.declared c.args.members.now c.loop-member.member-index c.member-item.result within c.member-item.is c.loop-member.invariant c.in_err-declare.ensures)

pub loop-member-preserved : goal.loop-member-preserved
loop-member-preserved c =
    let within : c.loop-member.member-index < length c.args.members.now = omega arith in
    walk_on declare_member view_member no_members c.loop-member.declared _ c.args.members.now c.loop-member.member-index c.member-item.result within c.member-item.is c.loop-member.invariant c.in_ok-declare.ensures

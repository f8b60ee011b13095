use Rattle.std.specs.Prelude.{codes}
use Rattle.bc_data.specs.View.{view_member}
use Rattle.bc_print.specs.Canonical.{member_text}
use Rattle.bc_print.proofs.Lists.{each_next, then_one}
use Rattle.bc_print.proofs.program.print_members.Goals as goal

pub loop-member-preserved : goal.loop-member-preserved
loop-member-preserved c =
    then_one _ _ _ _ _ _ c.loop-member.invariant c.in_ok-print_member.ensures (each_next (member_text (codes "  ")) view_member c.args.members.now c.loop-member.member-index c.member-item.result c.loop-member-test.true c.member-item.is)

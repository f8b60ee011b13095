use Rattle.bc_print.proofs.Lists.{joined_next, then_two}
use Rattle.bc_print.proofs.parts.print_joined.Goals as goal

pub loop-i-preserved : goal.loop-i-preserved
loop-i-preserved g c =
    then_two _ _ _ _ _ _ _ _ c.loop-i.invariant c.in_ok-print_separator.ensures c.in_ok-print.ensures (joined_next g.T.Part.text c.args.separator.now c.args.parts.now c.loop-i.i c.index-parts-i.result c.loop-i-test.true c.index-parts-i.is)

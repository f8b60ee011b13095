use Rattle.bc_print.proofs.Lists.{literal_next, then_one}
use Rattle.bc_print.proofs.parts.print_literal_bytes.Goals as goal

pub loop-b-preserved : goal.loop-b-preserved
loop-b-preserved c =
    then_one _ _ _ _ _ _ c.loop-b.invariant c.in_ok-print_literal_byte.ensures (literal_next c.args.meaning.now c.loop-b.b-index c.loop-b-test.true)

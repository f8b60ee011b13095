use Rattle.bc_code.specs.Listing.{instruction_line}
use Rattle.bc_code.proofs.Lists.{numbered_next, then_one}
use Rattle.bc_code.proofs.listing.push_lines.Goals as goal

pub loop-number-preserved : goal.loop-number-preserved
loop-number-preserved c =
    then_one _ _ _ _ _ _ c.loop-number.invariant c.in_ok-push_line.ensures (numbered_next (instruction_line c.args.program.now) c.args.code.now c.loop-number.number c.index-code-number.result c.loop-number-test.true c.index-code-number.is)

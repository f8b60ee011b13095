use Rattle.std.proofs.Common.{◌<◌, length, arith}
use Rattle.bc_mean_run.proofs.Changes.{written_more}
use Rattle.bc_mean_run.proofs.outcome.all_written.Goals as goal

pub loop-body-preserved : goal.loop-body-preserved
loop-body-preserved c =
    let bodies = c.args.bodies.now in
    let i = c.loop-body in
    let same = i.invariant.0 in
    let within : i.id < length bodies = omega arith in
    (omega arith, written_more c.args.run.now bodies i.id c.body-item.result c.in_ok-one.one i.all _ within (grind (arith, same, c.body-item.is)) c.in_ok-one.ensures i.invariant.1 c.in_ok-add.ensures)

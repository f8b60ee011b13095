use Rattle.std.proofs.Common.{◌<◌, length, arith}
use Rattle.bc_mean_run.proofs.Padding.{put_here}
use Rattle.bc_mean_run.proofs.run.place_of.Goals as goal

pub returns-then-written-id-clause-place : goal.returns-then-written-id-clause-place
returns-then-written-id-clause-place c = λ b.
    let within : c.loop-written.i < length c.args.changed.now = omega arith in
    put_here c.args.id b c.args.changed.now c.loop-written.i c.written-item.result within (grind arith) c.if-written-id.true (c.loop-written.invariant.1 b)

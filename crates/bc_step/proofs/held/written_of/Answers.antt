use Rattle.std.proofs.Common.{arith}
use Rattle.bc_step.specs.Held.{written_at}
use Rattle.bc_step.proofs.Changed.{looked_more}
use Rattle.bc_step.proofs.held.written_of.Goals as goal

pub loop-id-preserved : goal.loop-id-preserved
loop-id-preserved c = looked_more (written_at c.args.ids.now.keys c.args.given.now.items) c.args.numbers.now c.loop-id.id-index c.in_ok-one.one c.loop-id.all c.add.new.all (omega arith) c.in_ok-one.ensures c.loop-id.invariant c.in_ok-add.ensures

use Rattle.bc_machine.proofs.Known.{bodies_more}
use Rattle.bc_machine.proofs.plain.bodies_of.Goals as goal

pub loop-id-preserved : goal.loop-id-preserved
loop-id-preserved c =
    bodies_more c.args.store.now c.args.ids.now c.loop-id.id-index 0 c.loop-id.bodies c.push.new.self c.in_ok-copy.field-0 c.index.result.now c.requires c.loop-id-test.true c.in_ok-copy.ensures c.index.ensures c.loop-id.invariant c.in_ok-push.ensures.ok

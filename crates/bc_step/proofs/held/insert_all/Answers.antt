use Rattle.std.proofs.Common.{arith}
use Rattle.bc_step.proofs.Holds.{set_more}
use Rattle.bc_step.proofs.held.insert_all.Goals as goal

pub loop-id-preserved : goal.loop-id-preserved
loop-id-preserved c = record {
  keys = set_more c.args.objects.now c.loop-id.ids.keys c.insert.new.self.keys c.loop-id.id-index c.requires.different (omega arith) c.loop-id.invariant.keys c.in_ok-insert.ensures.keys;
  room = omega (arith, c.loop-id.invariant.room, c.insert.ensures.spare);
}

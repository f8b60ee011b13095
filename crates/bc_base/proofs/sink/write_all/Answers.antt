use Rattle.std.proofs.Common.{arith, length-drop}
use Rattle.bc_base.proofs.Taken.{Appends-more}
use Rattle.bc_base.proofs.sink.write_all.Goals as goal

pub loop-at-preserved : goal.loop-at-preserved
loop-at-preserved g c = record {
  within = omega (arith, c.in_ok-at.ensures.bound, length-drop c.loop-at.at c.args.bytes.now);
  taken = Appends-more _ _ _ c.args.bytes.now c.loop-at.at c.in_ok-at.field-0 c.loop-at.invariant.taken c.in_ok-at.ensures.grown;
  count = omega arith;
}

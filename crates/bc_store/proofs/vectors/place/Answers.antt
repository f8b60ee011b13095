use Rattle.std.proofs.Common.{List, slice_set, sym, ap, ◌∙◌}
use Rattle.bc_data.specs.declared.run.Body.{Body}
use Rattle.bc_mean.proofs.Placed.{placed_more}
use Rattle.bc_store.proofs.vectors.place.Goals as goal

pub loop-written-preserved : goal.loop-written-preserved
loop-written-preserved c = (
  tt,
  tt,
  ap (λ (bodies : List Body). slice_set bodies c.in-Some.written.id c.in-Some.written.body) c.loop-written.invariant.2 ∙ sym (placed_more c.loop-written.yielded c.in-Some.written c.args.bodies.now.items),
  c.loop-written.invariant.3,
  c.loop-written.invariant.4,
)

use Rattle.std.proofs.Common.{◌<◌, cond, length, arith}
use Rattle.bc_params_sets.specs.declared.place.Place.{Place}
use Rattle.bc_params.specs.Places.{IsUpdated, is_of}
use Rattle.bc_params.proofs.Elements.{front_more, front_read, spent_more}
use Rattle.bc_params.proofs.places.update_places.Goals as goal

pub loop-i-preserved : goal.loop-i-preserved
loop-i-preserved g c =
    let within : c.loop-i.i < length c.args.places.now = omega arith in (
      front_more (IsUpdated c.args.update) c.loop-i.i c.args.places.now c.loop-i.places c.index_mut.result.now c.update_place.new.place c.loop-i.invariant.0 within c.index_mut.ensures.value c.update_place.ensures.updated,
      spent_more (λ (q : Place). cond (is_of c.args.update.class q) 1 0) c.args.places.now c.loop-i.i c.index_mut.result.now c.args.steps.now c.loop-i.steps c.update_place.new.steps within
          (front_read (IsUpdated c.args.update) c.loop-i.i c.args.places.now c.loop-i.places c.index_mut.result.now c.index_mut.result.now c.loop-i.invariant.0 within c.index_mut.ensures.value)
          c.update_place.ensures.steps c.loop-i.invariant.1,
    )

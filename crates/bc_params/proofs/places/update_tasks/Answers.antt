use Rattle.std.proofs.Common.{◌<◌, length, arith, refl, count_by}
use Rattle.bc_params_sets.specs.declared.place.TaskSets.{TaskSets}
use Rattle.bc_params.specs.Places.{AtEachPlace, IsUpdated, is_of}
use Rattle.bc_params.proofs.Elements.{front_more, front_read, spent_more}
use Rattle.bc_params.proofs.places.update_tasks.Goals as goal

pub loop-i-preserved : goal.loop-i-preserved
loop-i-preserved g c =
    let within : c.loop-i.i < length c.args.tasks.now.items = omega arith in (
      front_more (AtEachPlace (IsUpdated c.args.update)) c.loop-i.i c.args.tasks.now.items c.loop-i.tasks.items c.index_mut.result.now (record { places = c.update_places.new.places; variables = c.index_mut.result.now.variables })
          c.loop-i.invariant.0 within c.index_mut.ensures.value (record { places = c.update_places.ensures.updated; variables = refl }),
      spent_more (λ (t : TaskSets). count_by (is_of c.args.update.class) t.places) c.args.tasks.now.items c.loop-i.i c.index_mut.result.now c.args.steps.now c.loop-i.steps c.update_places.new.steps within
          (front_read (AtEachPlace (IsUpdated c.args.update)) c.loop-i.i c.args.tasks.now.items c.loop-i.tasks.items c.index_mut.result.now c.index_mut.result.now c.loop-i.invariant.0 within c.index_mut.ensures.value)
          c.update_places.ensures.steps c.loop-i.invariant.1,
    )

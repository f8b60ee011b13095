use Rattle.std.proofs.Common.{◌+◌, ◌<◌, length, take, subst, sym, arith}
use Rattle.bc_data.specs.Typed.{TypedParam}
use Rattle.bc_params_sets.specs.Kept.{ArePlaces, IsPlace}
use Rattle.bc_params.specs.Look.{nobody}
use Rattle.bc_params.proofs.Unfilled.{places_more}
use Rattle.bc_params.proofs.empty.empty_places.Goals as goal

pub loop-param-preserved : goal.loop-param-preserved
loop-param-preserved c =
    let within : c.loop-param.param-index < length c.args.params.now = omega arith in
    subst (ArePlaces nobody (take (c.loop-param.param-index + 1) c.args.params.now)) (sym c.in_ok-push.ensures.ok)
    (places_more nobody c.args.params.now c.loop-param.param-index c.param-item.result c.loop-param.places c.in_ok-empty_place.field-0 within c.loop-param.invariant
    (subst (λ (p : TypedParam). IsPlace nobody p c.in_ok-empty_place.field-0) c.param-item.is c.in_ok-empty_place.ensures))

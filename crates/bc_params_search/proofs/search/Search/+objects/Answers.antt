use Rattle.std.proofs.Common.{◌≡◌, [], ◌∷◌, length, get_or, Some, refl, sym, ap, subst, arith}
use Rattle.std.specs.Prelude.{slice_get}
use Rattle.std.proofs.lemmas.Option.{slice_get_within}
use Rattle.bc_params_sets.specs.Members.{IsRising}
use Rattle.bc_params_search.specs.Search.{Covers}
use Rattle.bc_params_search.proofs.NextObject.{set_covers}
use Rattle.bc_params_search.proofs.Steps.{full_objects, all_objects, object_passed, place_there, one_rising}
use Rattle.bc_params_search.proofs.search.Search.+objects.Goals as goal

pub add_each-returns-then-len-self-clause-found : goal.add_each-returns-then-len-self-clause-found
add_each-returns-then-len-self-clause-found t c =
    full_objects c.args.self.now c.args.front c.args.candidates.now c.args.found.now c.loop-object.found c.loop-object.object-index c.loop-object.invariant.found c.requires.rising c.requires.covers
    (let most = ap (λ s. s.most) c.self.view_is in omega (arith, most, c.len.ensures, c.if-len-self.true))

pub add_each-returns-clause-found : goal.add_each-returns-clause-found
add_each-returns-clause-found t c =
    all_objects c.args.self.now c.args.front c.args.candidates.now c.args.found.now c.loop-object.found c.loop-object.object-index c.loop-object.invariant.found c.requires.rising c.requires.covers
    (omega (arith, c.loop-object-test.false))

pub add_each-loop-object-preserved-then-not-may_stand : goal.add_each-loop-object-preserved-then-not-may_stand
add_each-loop-object-preserved-then-not-may_stand t c = record {
  short = c.loop-object.invariant.short;
  found = object_passed c.args.self.now c.args.front c.args.candidates.now c.args.found.now c.loop-object.found c.loop-object.object-index c.loop-object.invariant.found
      (get_or c.args.candidates.now c.loop-object.object-index 0) (omega (arith, c.loop-object-test.true)) refl (c.may_stand.ensures c.if-not-may_stand.true);
}

pub add_objects-add_each-requires : goal.add_objects-add_each-requires
add_objects-add_each-requires t c =
    let place : slice_get c.args.self.now.task.places (length c.args.front) ≡ Some c.in-Some.place.now =
    place_there c.args.self.now c.self.inside.task.now c.args.front c.len.result c.in-Some.place.now (ap (λ s. s.task) c.self.view_is) c.len.ensures.value c.in-Some.ensures in
    let covers = subst (λ id. Covers c.args.self.now c.args.front (id ∷ [])) (sym (ap (λ s. s.id) c.self.view_is)) (c.is_named_next.ensures c.if-is_named_next.true) in (
      omega arith,
      (
        c.requires.small,
        (
          c.requires.bound,
          (slice_get_within c.args.self.now.task.places (length c.args.front) c.in-Some.place.now place, (place, (one_rising c.self.inside.id, (covers, c.requires.short)))),
        ),
      ),
    )

pub add_objects-add_each-requires-in-None : goal.add_objects-add_each-requires-in-None
add_objects-add_each-requires-in-None t c =
    let place : slice_get c.args.self.now.task.places (length c.args.front) ≡ Some c.in-Some.place.now =
    place_there c.args.self.now c.self.inside.task.now c.args.front c.len.result c.in-Some.place.now (ap (λ s. s.task) c.self.view_is) c.len.ensures.value c.in-Some.ensures in
    let rising = subst IsRising (sym c.as_slice-in-None.ensures.value) c.as_slice-in-None.ensures.rising in
    let covers = subst (Covers c.args.self.now c.args.front) (sym c.as_slice-in-None.ensures.value) (set_covers c.args.self.now c.args.front c.in-Some.place.now place) in (
      omega arith,
      (
        c.requires.small,
        (
          c.requires.bound,
          (slice_get_within c.args.self.now.task.places (length c.args.front) c.in-Some.place.now place, (place, (rising, (covers, c.requires.short)))),
        ),
      ),
    )

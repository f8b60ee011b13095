-- Sets of a store where each place is changed.
use Rattle.std.proofs.Common.{ℕ, List, [], ◌∷◌, Option, ◌∙◌}
use Rattle.std.specs.List.{AllZip}
use Rattle.bc_data.specs.declared.run.Body.{Body}
use Rattle.bc_data.specs.Typed.{TypedParam, TypedTask}
use Rattle.bc_params_sets.specs.declared.place.Place.{Place}
use Rattle.bc_params_sets.specs.declared.place.TaskSets.{TaskSets}
use Rattle.bc_params_sets.specs.Kept.{IsPlace, ArePlaces, AreTasks}
use Rattle.bc_params.specs.Places.{Each, AtEachPlace}
use Rattle.bc_params.proofs.Pairs.{zipped}

-- what each place is of stays so, over another look-up
abbrev pub Carries : (ℕ → Option Body) → (ℕ → Option Body) → (Place → Place → Type 0) → Type 0
Carries look other R = (p : TypedParam) (q r : Place) → IsPlace look p q → R q r → IsPlace other p r

places_zipped : (look other : ℕ → Option Body) (R : Place → Place → Type 0) → Carries look other R → (ps : List TypedParam) (qs rs : List Place) → ArePlaces look ps qs → AllZip R qs rs → ArePlaces other ps rs
places_zipped look other R step [] [] [] a z = tt
places_zipped look other R step [] [] (r ∷ rs) a z = absurd z
places_zipped look other R step [] (q ∷ qs) rs a z = absurd a
places_zipped look other R step (p ∷ ps) [] rs a z = absurd a
places_zipped look other R step (p ∷ ps) (q ∷ qs) [] a z = absurd z
places_zipped look other R step (p ∷ ps) (q ∷ qs) (r ∷ rs) a z = (step p q r a.0 z.0, places_zipped look other R step ps qs rs a.1 z.1)

tasks_zipped : (look other : ℕ → Option Body) (R : Place → Place → Type 0) → Carries look other R → (ts : List TypedTask) (ss us : List TaskSets) → AreTasks look ts ss → AllZip (AtEachPlace R) ss us → AreTasks other ts us
tasks_zipped look other R step [] [] [] a z = tt
tasks_zipped look other R step [] [] (u ∷ us) a z = absurd z
tasks_zipped look other R step [] (s ∷ ss) us a z = absurd a
tasks_zipped look other R step (t ∷ ts) [] us a z = absurd a
tasks_zipped look other R step (t ∷ ts) (s ∷ ss) [] a z = absurd z
tasks_zipped look other R step (t ∷ ts) (s ∷ ss) (u ∷ us) a z = (
  record {
    places = places_zipped look other R step t.params s.places u.places a.0.places (zipped R s.places u.places z.0.places);
    variables = z.0.variables ∙ a.0.variables;
  },
  tasks_zipped look other R step ts ss us a.1 z.1,
)

pub tasks_through : (look other : ℕ → Option Body) (R : Place → Place → Type 0) → Carries look other R → (ts : List TypedTask) (ss us : List TaskSets) → AreTasks look ts ss → Each (AtEachPlace R) ss us → AreTasks other ts us
tasks_through look other R step ts ss us a e = tasks_zipped look other R step ts ss us a (zipped (AtEachPlace R) ss us e)

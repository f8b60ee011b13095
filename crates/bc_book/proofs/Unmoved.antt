-- Bodies that were given, and where none has moved.
use Rattle.std.proofs.Common.{◌≡◌, ℕ, ◌<◌, Bool, true, false, cond, ◌==◌, ◌||◌, inl, inr, List, [], ◌∷◌, length, get_or, Option, Some, None, refl, sym, ap, subst, ◌∙◌}
use Rattle.std.specs.Prelude.{All, slice_get}
use Rattle.std.specs.List.{AllByRecursion}
use Rattle.std.proofs.lemmas.Bool.{cases_Bool, false≢true}
use Rattle.std.proofs.lemmas.Option.{none-some, slice_get_within}
use Rattle.std.proofs.lemmas.List.Elements.{All-from_recursion, recursion_from_All}
use Rattle.bc_data.specs.declared.run.Body.{Body}
use Rattle.bc_data.specs.declared.run.Written.{Written}
use Rattle.bc_mean.specs.declared.plain.Plain.{Plain}
use Rattle.bc_law_locality.specs.Growth.{has}
use Rattle.bc_code.specs.Given.{given_look, ids_of}
use Rattle.bc_law_core.proofs.Standing.{each_in}
use Rattle.bc_book_events.specs.Events.{first_moved, is_moved}

pub given_has : (gs : List Written) (id : ℕ) → has (ids_of gs) id ≡ true → (b : Body) × (given_look gs id ≡ Some b)
given_has [] id h = absurd (false≢true h)
given_has (g ∷ gs) id h = elim (cases_Bool (g.id == id)) [
  | inl e ↦ (g.body, ap (λ (t : Bool). cond t (Some g.body) (given_look gs id)) e)
  | inr e ↦
      let r = given_has gs id (sym (ap (λ (t : Bool). t || has (ids_of gs) id) e) ∙ h) in
      (r.0, ap (λ (t : Bool). cond t (Some g.body) (given_look gs id)) e ∙ r.1)
]

pub given_at : (gs : List Written) (ids : List ℕ) (k : ℕ) → ids ≡ ids_of gs → k < length ids → (b : Body) × (given_look gs (get_or ids k 0) ≡ Some b)
given_at gs ids k e low = given_has gs (get_or ids k 0) (subst (λ (l : List ℕ). has l (get_or ids k 0) ≡ true) e (each_in ids k 0 low))

-- an object whose body was given and has not moved is in the store
own_there : (given : Body) (o : Option Body) → is_moved (Some given) o ≡ false → (own : Body) × (o ≡ Some own)
own_there given None n = absurd (false≢true (sym n))
own_there given (Some own) n = (own, refl)

module _ (S : Plain) (gs : List Written) where
  abbrev IsBelow : ℕ → Type 0
  IsBelow id = id < length S.bodies

  below : (id : ℕ) → has (ids_of gs) id ≡ true → is_moved (given_look gs id) (slice_get S.bodies id) ≡ false → IsBelow id
  below id h n =
      let g = given_has gs id h in
      let own = own_there g.0 (slice_get S.bodies id) (ap (λ (o : Option Body). is_moved o (slice_get S.bodies id)) (sym g.1) ∙ n) in
      slice_get_within S.bodies id own.0 own.1

  each_below : (ids : List ℕ) → AllByRecursion (λ id. has (ids_of gs) id ≡ true) ids → first_moved S (given_look gs) ids ≡ None → AllByRecursion IsBelow ids
  each_below [] a e = tt
  each_below (id ∷ ids) a e = elim (cases_Bool (is_moved (given_look gs id) (slice_get S.bodies id))) [
    | inl t ↦ absurd (none-some id (sym e ∙ ap (λ (b : Bool). cond b (Some id) (first_moved S (given_look gs) ids)) t))
    | inr n ↦ (below id a.0 n, each_below ids a.1 (sym (ap (λ (b : Bool). cond b (Some id) (first_moved S (given_look gs) ids)) n) ∙ e))
  ]

  pub unmoved_below : first_moved S (given_look gs) (ids_of gs) ≡ None → All IsBelow (ids_of gs)
  unmoved_below e =
      All-from_recursion IsBelow (ids_of gs)
      (each_below (ids_of gs) (recursion_from_All (λ id. has (ids_of gs) id ≡ true) (ids_of gs) (each_in (ids_of gs))) e)

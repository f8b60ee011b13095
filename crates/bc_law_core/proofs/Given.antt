-- Bodies that were given, and stores that have them.
use Rattle.std.proofs.Common.{◌≡◌, ℕ, Bool, true, false, cond, ◌==◌, List, [], ◌∷◌, Option, Some, None, refl, sym, ap, ◌∙◌, arith}
use Rattle.std.specs.Prelude.{not, slice_get}
use Rattle.std.specs.List.{AllByRecursion, find}
use Rattle.std.proofs.lemmas.Bool.{and_parts, eq-eqb, false≢true, not-false, not-true, or_parts}
use Rattle.std.proofs.lemmas.List.Elements.{All-from_recursion, recursion_from_All}
use Rattle.std.proofs.lemmas.Option.{none-some}
use Rattle.bc_data.specs.declared.run.Body.{Body}
use Rattle.bc_data.specs.declared.run.Written.{Written}
use Rattle.bc_mean.specs.declared.plain.Plain.{Plain}
use Rattle.bc_mean.specs.Changes.{same_body}
use Rattle.bc_mean.specs.Enabled.{are_different}
use Rattle.bc_law_locality.specs.Growth.{has}
use Rattle.bc_code.specs.Given.{given_look, ids_of}
use Rattle.bc_step.specs.Area.{AgreesWith}
use Rattle.bc_book_events.specs.Events.{first_moved, is_moved}
use Rattle.bc_book_events.proofs.Kept.{untouched_keeps}

-- the body that the look-up of these has is the object's own
abbrev HasOwn : List Written → Written → Type 0
HasOwn gs h = given_look gs h.id ≡ Some h.body

other_way : (x y : ℕ) → (x == y) ≡ false → (y == x) ≡ false
other_way x y e = grind (arith)

-- one more in front, of another object
own_later : (g : Written) (gs hs : List Written) → has (ids_of hs) g.id ≡ false → AllByRecursion (HasOwn gs) hs → AllByRecursion (HasOwn (g ∷ gs)) hs
own_later g gs [] n a = tt
own_later g gs (h ∷ hs) n a =
    let p = or_parts (h.id == g.id) (has (ids_of hs) g.id) n in
    (ap (λ (c : Bool). cond c (Some g.body) (given_look gs h.id)) (other_way h.id g.id p.0) ∙ a.0, own_later g gs hs p.1 a.1)

each_own : (gs : List Written) → are_different (ids_of gs) ≡ true → AllByRecursion (HasOwn gs) gs
each_own [] d = tt
each_own (g ∷ gs) d =
    let p = and_parts (not (has (ids_of gs) g.id)) (are_different (ids_of gs)) d in
    (ap (λ (c : Bool). cond c (Some g.body) (given_look gs g.id)) (eq-eqb g.id g.id refl), own_later g gs gs (not-true (has (ids_of gs) g.id) p.0) (each_own gs p.1))

not_found : {X : Type 0} (test : Bool) (x : X) (o : Option X) → cond test (Some x) o ≡ None → (test ≡ false) × (o ≡ None)
not_found true x o e = absurd (none-some x (sym e))
not_found false x o e = (refl, e)

unmoved : (g : Body) (o : Option Body) → is_moved (Some g) o ≡ false → o ≡ Some g
unmoved g None e = absurd (false≢true (sym e))
unmoved g (Some own) e = ap (λ (b : Body). Some b) (sym (untouched_keeps.same g own (not-false (same_body g own) e)))

module _ (S : Plain) (gs : List Written) where
  abbrev IsThere : Written → Type 0
  IsThere h = slice_get S.bodies h.id ≡ Some h.body

  each_there : (hs : List Written) → AllByRecursion (HasOwn gs) hs → find (λ id. is_moved (given_look gs id) (slice_get S.bodies id)) (ids_of hs) ≡ None → AllByRecursion IsThere hs
  each_there [] a e = tt
  each_there (h ∷ hs) a e =
      let n = not_found (is_moved (given_look gs h.id) (slice_get S.bodies h.id)) h.id (find (λ id. is_moved (given_look gs id) (slice_get S.bodies id)) (ids_of hs)) e in
      (unmoved h.body (slice_get S.bodies h.id) (ap (λ (o : Option Body). is_moved o (slice_get S.bodies h.id)) (sym a.0) ∙ n.0), each_there hs a.1 n.1)

  -- a store in which no body has moved has the bodies given
  pub unmoved_agrees : are_different (ids_of gs) ≡ true → first_moved S (given_look gs) (ids_of gs) ≡ None → AgreesWith S gs
  unmoved_agrees d e = All-from_recursion IsThere gs (each_there gs (each_own gs d) e)

-- two stores that have the bodies given agree on these
pub both_have : (S T : Plain) (gs : List Written) → AgreesWith S gs → AgreesWith T gs → AllByRecursion (λ id. slice_get S.bodies id ≡ slice_get T.bodies id) (ids_of gs)
both_have S T gs a b = each gs (recursion_from_All (IsThere S gs) gs a) (recursion_from_All (IsThere T gs) gs b)
  where
    each : (hs : List Written) → AllByRecursion (IsThere S gs) hs → AllByRecursion (IsThere T gs) hs → AllByRecursion (λ id. slice_get S.bodies id ≡ slice_get T.bodies id) (ids_of hs)
    each [] a b = tt
    each (h ∷ hs) a b = (a.0 ∙ sym b.0, each hs a.1 b.1)

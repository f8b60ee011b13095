-- The sought invocations with these objects in front, by the next object.
use Rattle.std.proofs.Common.{◌≡◌, ℕ, inl, inr, Bool, true, false, not, ◌&&◌, ◌==◌, List, [], ◌∷◌, ◌++◌, length, Option, Some, None, refl, sym, ap, ◌∙◌, subst}
use Rattle.std.specs.Prelude.{slice_get}
use Rattle.std.specs.List.{list_all}
use Rattle.std.specs.declared.cmp.Ordering.{Ordering}
use Rattle.std.specs.Cmp.{nat_cmp_total, tied_itself}
use Rattle.std.specs.Ordering.{ordering_then, nat_cmp, is_lt}
use Rattle.std.specs.Cmp.Lexicographic.{slice_cmp}
use Rattle.std.proofs.lemmas.Bool.{false≢true, and_parts, or_cases, or_left, or_right, eq-eqb, eqb-true}
use Rattle.bc_data.specs.declared.run.Invocation.{Invocation}
use Rattle.bc_mean.specs.Enabled.{is_some_and, are_different}
use Rattle.bc_mean.specs.Serial.{listed}
use Rattle.bc_params_sets.specs.declared.place.Place.{Place}
use Rattle.bc_params_sets.specs.Members.{has, IsRising}
use Rattle.bc_params_sets.specs.Kept.{is_in, carries_by, takes_by}
use Rattle.bc_params_search.specs.Search.{Sought, AreAll, Covers, NoneBegins, begins, goes_on, picked, by_objects}
use Rattle.bc_params_search.proofs.Lists.{Below, below_first, begins_more}
use Rattle.bc_params_search.proofs.Parts.{Before, is_next, next_parts, none_pass}
use Rattle.bc_params_search.proofs.Taken.{taken, taken_at, some_weaker}

pub by_lower_objects : (v w : Invocation) → v.task ≡ w.task → Below v.objects w.objects → Before v w
by_lower_objects v w e h =
    ap (λ (o : Ordering). is_lt (ordering_then o (ordering_then (slice_cmp nat_cmp v.objects w.objects) (slice_cmp nat_cmp v.tags w.tags)))) (ap (nat_cmp v.task) (sym e) ∙ tied_itself nat_cmp_total v.task)
    ∙ ap (λ (o : Ordering). is_lt (ordering_then o (slice_cmp nat_cmp v.tags w.tags))) h

-- the parts of the test
pub record GoesOn (n : ℕ) (xs ns : List ℕ) (v : Invocation) : Type 0 where
  pub task : v.task ≡ n
  pub objects : begins xs v.objects ≡ true
  pub tags : begins ns v.tags ≡ true

pub going : (n : ℕ) (objects tags : List ℕ) (v : Invocation) → goes_on n objects tags v ≡ true → GoesOn n objects tags v
going n objects tags v h =
    let q = and_parts ((v.task == n) && begins objects v.objects) (begins tags v.tags) h in
    let r = and_parts (v.task == n) (begins objects v.objects) q.0 in
    record { task = eqb-true v.task n r.0; objects = r.1; tags = q.1 }

last_two : (a b c : Bool) → (a && (b && c) && true) ≡ ((a && b && true) && c)
last_two true true true = refl
last_two true true false = refl
last_two true false c = refl
last_two false b c = refl

-- one object more
pub one_object : (n : ℕ) (front : List ℕ) (x : ℕ) (v : Invocation) → goes_on n (front ++ x ∷ []) [] v ≡ (goes_on n front [] v && is_next (slice_get v.objects (length front)) x)
one_object n front x v =
    ap (λ (b : Bool). (v.task == n) && b && true) (begins_more front v.objects x)
    ∙ last_two (v.task == n) (begins front v.objects) (is_next (slice_get v.objects (length front)) x)

pub object_parts : (s : Sought) (front xs : List ℕ) (all : List Invocation) → AreAll s all → IsRising xs → Covers s front xs → by_objects s front xs all ≡ picked s front [] all
object_parts s front xs all is rising covers =
    sym (next_parts all is.ascending (goes_on s.number front []) (λ x. goes_on s.number (front ++ x ∷ []) []) (λ v. slice_get v.objects (length front)) xs rising
    (λ x y a b l p q.
    let g = going s.number (front ++ x ∷ []) [] a (and_parts (listed all a) (goes_on s.number (front ++ x ∷ []) [] a) p).1 in
    let h = going s.number (front ++ y ∷ []) [] b (and_parts (listed all b) (goes_on s.number (front ++ y ∷ []) [] b) q).1 in
    by_lower_objects a b (g.task ∙ sym h.task) (below_first front x y a.objects b.objects l g.objects h.objects))
    (λ x v. one_object s.number front x v)
    (λ v l h.
    let g = going s.number front [] v h in
    covers.each v (sym (is.members v g.task) ∙ l) g.objects))

-- the set of a place has each object that is sought there
pub set_covers : (s : Sought) (front : List ℕ) (q : Place) → slice_get s.task.places (length front) ≡ Some q → Covers s front q.objects.members
set_covers s front q e = record {
  each = λ v h b.
      some_weaker (slice_get v.objects (length front)) (takes_by s.task s.bound v.tags q) (has q.objects.members)
      (λ x k. (and_parts (is_in q x) (list_all (carries_by s.task s.bound v.tags x) q.binds) k).0)
      (taken_at s.task s.bound v.tags s.task.places v.objects (length front) q (taken s v h).objects e);
}

-- different objects
later_has : (front ys : List ℕ) (x : ℕ) → begins (front ++ x ∷ []) ys ≡ true → has ys x ≡ true
later_has [] [] x h = absurd (false≢true h)
later_has [] (y ∷ ys) x h = or_left (y == x) (has ys x) (eq-eqb y x (sym (eqb-true x y (and_parts (x == y) true h).0)))
later_has (a ∷ front) [] x h = absurd (false≢true h)
later_has (a ∷ front) (y ∷ ys) x h = or_right (y == x) (has ys x) (later_has front ys x (and_parts (a == y) (begins (front ++ x ∷ []) ys) h).1)

pub different_next : (front ys : List ℕ) (x : ℕ) → begins (front ++ x ∷ []) ys ≡ true → are_different ys ≡ true → has front x ≡ true → ⊥
different_next [] ys x h d m = false≢true m
different_next (a ∷ front) [] x h d m = false≢true h
different_next (a ∷ front) (y ∷ ys) x h d m =
    let p = and_parts (a == y) (begins (front ++ x ∷ []) ys) h in
    let q = and_parts (not (has ys y)) (are_different ys) d in
    elim (or_cases (a == x) (has front x) m) [
      | inl e ↦
          let f : x ≡ y = sym (eqb-true a x e) ∙ eqb-true a y p.0 in
          let there : has ys y ≡ true = subst (λ (z : ℕ). has ys z ≡ true) f (later_has front ys x p.1) in
          false≢true (sym (subst (λ (b : Bool). not b ≡ false) (sym there) refl) ∙ q.0)
      | inr e ↦ different_next front ys x p.1 q.1 e
    ]

-- An object that is not in the place's set, or that is in front, is in no sought one.
pub none_free : (s : Sought) (front : List ℕ) (q : Place) (x : ℕ) → slice_get s.task.places (length front) ≡ Some q → (is_in q x && not (has front x)) ≡ false → NoneBegins s (front ++ x ∷ [])
none_free s front q x e off v h b =
    let t = taken s v h in
    let at = (and_parts (begins front v.objects) (is_next (slice_get v.objects (length front)) x) (sym (begins_more front v.objects x) ∙ b)).1 in
    neither (is_in q x) (has front x) off
    (there (slice_get v.objects (length front)) at (taken_at s.task s.bound v.tags s.task.places v.objects (length front) q t.objects e) (λ y k. (and_parts (is_in q y) (list_all (carries_by s.task s.bound v.tags y) q.binds) k).0))
    (different_next front v.objects x b t.different)
  where
    there : (o : Option ℕ) {p : ℕ → Bool} → is_next o x ≡ true → is_some_and o p ≡ true → ((y : ℕ) → p y ≡ true → is_in q y ≡ true) → is_in q x ≡ true
    there None h k f = absurd (false≢true h)
    there (Some y) h k f = subst (λ (z : ℕ). is_in q z ≡ true) (sym (eqb-true x y h)) (f y k)

    neither : (a b : Bool) → (a && not b) ≡ false → a ≡ true → (b ≡ true → ⊥) → ⊥
    neither true true n h k = k refl
    neither true false n h k = false≢true (sym n)
    neither false b n h k = false≢true h

pub passed_object : (s : Sought) (front : List ℕ) (all : List Invocation) → AreAll s all → NoneBegins s front → picked s front [] all ≡ []
passed_object s front all is none =
    none_pass all (goes_on s.number front [])
    (λ v l h.
    let g = going s.number front [] v h in
    none v (sym (is.members v g.task) ∙ l) g.objects)

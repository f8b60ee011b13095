-- What the objects and instances of a sought invocation are like.
use Rattle.std.proofs.Common.{◌≡◌, ℕ, zero, suc, inl, inr, Bool, true, false, not, ◌&&◌, ◌||◌, ◌==◌, if◌then◌else◌, List, [], ◌∷◌, length, Option, Some, None, refl, sym, ap, ◌∙◌, subst, arith}
use Rattle.std.specs.Prelude.{slice_get}
use Rattle.std.specs.List.{list_all, list_any}
use Rattle.std.proofs.lemmas.Bool.{false≢true, and_parts, and_from, or_cases, or_left, eq-eqb, eqb-true}
use Rattle.bc_data.specs.declared.run.Invocation.{Invocation}
use Rattle.bc_mean.specs.Enabled.{is_some_and, are_different}
use Rattle.bc_mean.specs.Serial.{listed}
use Rattle.bc_params_sets.specs.declared.place.Place.{Place}
use Rattle.bc_params_sets.specs.declared.place.TaskSets.{TaskSets}
use Rattle.bc_params_sets.specs.declared.tag_index.Binding.{Binding}
use Rattle.bc_params_sets.specs.Members.{has}
use Rattle.bc_params_sets.specs.Bindings.{is_bound}
use Rattle.bc_params_sets.specs.Kept.{is_in, carries_by, takes_by, take_all_by}
use Rattle.bc_params_search.specs.Tuples.{names}
use Rattle.bc_params_search.specs.Search.{Sought, is_sought, AreAll, binder, all_carry}

-- the parts of the test
pub record IsTaken (s : Sought) (v : Invocation) : Type 0 where
  pub tags : length v.tags ≡ length s.task.variables
  pub objects : take_all_by s.task s.bound v.tags s.task.places v.objects ≡ true
  pub different : are_different v.objects ≡ true
  pub named : names s.id v ≡ true

pub taken : (s : Sought) (v : Invocation) → is_sought s v ≡ true → IsTaken s v
taken s v h =
    let long = length v.tags == length s.task.variables in
    let fits = take_all_by s.task s.bound v.tags s.task.places v.objects in
    let q = and_parts (long && fits && are_different v.objects) (names s.id v) h in
    let r = and_parts (long && fits) (are_different v.objects) q.0 in
    let t = and_parts long fits r.0 in
    record { tags = eqb-true _ _ t.0; objects = t.1; different = r.1; named = q.1 }

pub taken_listed : (s : Sought) (all : List Invocation) (v : Invocation) → AreAll s all → v.task ≡ s.number → listed all v ≡ true → IsTaken s v
taken_listed s all v is e h = taken s v (sym (is.members v e) ∙ h)

pub has_from : (xs : List ℕ) (x : ℕ) (y : ℕ) → x ≡ y → has (x ∷ xs) y ≡ true
has_from xs x y e = or_left (x == y) (has xs y) (eq-eqb x y e)

-- what all pass, a member passes
pub all_has : (p : ℕ → Bool) (bs : List ℕ) (b : ℕ) → list_all p bs ≡ true → has bs b ≡ true → p b ≡ true
all_has p [] b h m = absurd (false≢true m)
all_has p (c ∷ bs) b h m =
    let q = and_parts (p c) (list_all p bs) h in
    elim (or_cases (c == b) (has bs b) m) [
      | inl e ↦ subst (λ (n : ℕ). p n ≡ true) (eqb-true c b e) q.0
      | inr e ↦ all_has p bs b q.1 e
    ]

pub some_weaker : {X : Type 0} (o : Option X) (p q : X → Bool) → ((x : X) → p x ≡ true → q x ≡ true) → is_some_and o p ≡ true → is_some_and o q ≡ true
some_weaker None p q f h = h
some_weaker (Some x) p q f h = f x h

module _ (t : TaskSets) (bound : List Binding) (ns : List ℕ) where
  pub taken_length : (qs : List Place) (xs : List ℕ) → take_all_by t bound ns qs xs ≡ true → length xs ≡ length qs
  taken_length [] [] h = refl
  taken_length [] (x ∷ xs) h = absurd (false≢true h)
  taken_length (q ∷ qs) [] h = absurd (false≢true h)
  taken_length (q ∷ qs) (x ∷ xs) h =
      let e = taken_length qs xs (and_parts (takes_by t bound ns q x) (take_all_by t bound ns qs xs) h).1 in
      omega arith

  pub taken_at : (qs : List Place) (xs : List ℕ) (i : ℕ) (q : Place) → take_all_by t bound ns qs xs ≡ true → slice_get qs i ≡ Some q → is_some_and (slice_get xs i) (takes_by t bound ns q) ≡ true
  taken_at [] xs i q h e = cc
  taken_at (p ∷ qs) [] i q h e = absurd (false≢true h)
  taken_at (p ∷ qs) (x ∷ xs) zero q h e =
      let f : p ≡ q = cc in
      subst (λ (r : Place). takes_by t bound ns r x ≡ true) f (and_parts (takes_by t bound ns p x) (take_all_by t bound ns qs xs) h).0
  taken_at (p ∷ qs) (x ∷ xs) (suc i) q h e = taken_at qs xs i q (and_parts (takes_by t bound ns p x) (take_all_by t bound ns qs xs) h).1 e

  -- an object carries each instance that its place binds
  pub takes_carries : (q : Place) (x b : ℕ) → takes_by t bound ns q x ≡ true → has q.binds b ≡ true → carries_by t bound ns x b ≡ true
  takes_carries q x b h m = all_has (carries_by t bound ns x) q.binds b (and_parts (is_in q x) (list_all (carries_by t bound ns x) q.binds) h).1 m

  pub binder_carries : (qs : List Place) (xs : List ℕ) (b x : ℕ) → take_all_by t bound ns qs xs ≡ true → binder qs xs b ≡ Some x → carries_by t bound ns x b ≡ true
  binder_carries [] xs b x h e = cc
  binder_carries (q ∷ qs) [] b x h e = cc
  binder_carries (q ∷ qs) (y ∷ xs) b x h e =
      let p = and_parts (takes_by t bound ns q y) (take_all_by t bound ns qs xs) h in
      at_first (has q.binds b) refl p.0 e (λ k. binder_carries qs xs b x p.1 k)
    where
      at_first : (c : Bool) → has q.binds b ≡ c → takes_by t bound ns q y ≡ true → (if c then Some y else binder qs xs b) ≡ Some x →
          (binder qs xs b ≡ Some x → carries_by t bound ns x b ≡ true) → carries_by t bound ns x b ≡ true
      at_first true m k f r = let g : y ≡ x = cc in subst (λ (z : ℕ). carries_by t bound ns z b ≡ true) g (takes_carries q y b k m)
      at_first false m k f r = r f

  pub bound_somewhere : (qs : List Place) (xs : List ℕ) (b : ℕ) → take_all_by t bound ns qs xs ≡ true → list_any (λ q. has q.binds b) qs ≡ true → binder qs xs b ≡ None → ⊥
  bound_somewhere [] xs b h m e = false≢true m
  bound_somewhere (q ∷ qs) [] b h m e = false≢true h
  bound_somewhere (q ∷ qs) (y ∷ xs) b h m e =
      let p = and_parts (takes_by t bound ns q y) (take_all_by t bound ns qs xs) h in
      at_first (has q.binds b) m e (λ k l. bound_somewhere qs xs b p.1 k l)
    where
      at_first : (c : Bool) → (c || list_any (λ q. has q.binds b) qs) ≡ true → (if c then Some y else binder qs xs b) ≡ None →
          (list_any (λ q. has q.binds b) qs ≡ true → binder qs xs b ≡ None → ⊥) → ⊥
      at_first true k f r = cc
      at_first false k f r = r k f

  pub carries_at : (x b type n : ℕ) → slice_get t.variables b ≡ Some type → slice_get ns b ≡ Some n → carries_by t bound ns x b ≡ is_bound bound (record { object = x; tag_type = type; instance = n })
  carries_at x b type n e f =
      ap (λ (o : Option ℕ). is_some_and o (λ type. is_some_and (slice_get ns b) (λ n. is_bound bound (record { object = x; tag_type = type; instance = n })))) e
      ∙ ap (λ (o : Option ℕ). is_some_and o (λ n. is_bound bound (record { object = x; tag_type = type; instance = n }))) f

  pub all_carry_taken : (qs : List Place) (xs : List ℕ) (b type n : ℕ) → slice_get t.variables b ≡ Some type → slice_get ns b ≡ Some n →
      take_all_by t bound ns qs xs ≡ true → all_carry bound qs xs b type n ≡ true
  all_carry_taken [] xs b type n e f h = refl
  all_carry_taken (q ∷ qs) [] b type n e f h = refl
  all_carry_taken (q ∷ qs) (x ∷ xs) b type n e f h =
      let p = and_parts (takes_by t bound ns q x) (take_all_by t bound ns qs xs) h in
      let c : Binding = record { object = x; tag_type = type; instance = n } in
      and_from (not (has q.binds b) || is_bound bound c) (all_carry bound qs xs b type n)
      (unless (has q.binds b) (is_bound bound c) (λ m. sym (carries_at x b type n e f) ∙ takes_carries q x b p.0 m))
      (all_carry_taken qs xs b type n e f p.1)
    where
      unless : (a c : Bool) → (a ≡ true → c ≡ true) → (not a || c) ≡ true
      unless true c k = k refl
      unless false c k = refl

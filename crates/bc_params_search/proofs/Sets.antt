-- Sets of a store tell what is enabled in it.
use Rattle.std.proofs.Common.{◌≡◌, ℕ, zero, suc, ◌<◌, inl, inr, Bool, true, false, ◌&&◌, ◌==◌, List, [], ◌∷◌, length, Option, Some, None, refl, sym, ap, ap₂, ◌∙◌, arith}
use Rattle.std.specs.Prelude.{slice_get, nat_lt}
use Rattle.std.specs.List.{list_all, list_any, AllByRecursion}
use Rattle.std.proofs.lemmas.Bool.{false≢true, and_parts, and_from, or_cases, eqb-true, lt-ltb}
use Rattle.std.proofs.lemmas.List.Elements.{recursion_from_All}
use Rattle.std.proofs.lemmas.Option.{slice_get_within}
use Rattle.bc_data.specs.Guard.{guard_truth}
use Rattle.bc_data.specs.Typed.{TypedParam, TypedTask}
use Rattle.bc_data.specs.declared.run.Body.{Body}
use Rattle.bc_data.specs.declared.run.Invocation.{Invocation}
use Rattle.bc_mean.specs.declared.plain.Plain.{Plain}
use Rattle.bc_mean.specs.Enabled.{is_some_and, is_class, is_instance, carries, takes, take_all, are_different, all_enabled}
use Rattle.bc_mean.proofs.Enabled.{all_ascending, all_exact, inside}
use Rattle.bc_mean.proofs.Orders.{listed_filter}
use Rattle.bc_params_sets.specs.declared.place.Place.{Place}
use Rattle.bc_params_sets.specs.declared.place.TaskSets.{TaskSets}
use Rattle.bc_params_sets.specs.declared.tag_index.Binding.{Binding}
use Rattle.bc_params_sets.specs.Members.{has}
use Rattle.bc_params_sets.specs.Bindings.{is_bound}
use Rattle.bc_params_sets.specs.Kept.{carries_by, takes_by, take_all_by, fits, is_carried, IsPlace, ArePlaces, IsTaskSets, AreTasks}
use Rattle.bc_params_search.specs.Tuples.{names}
use Rattle.bc_params_search.specs.Laws.{BindsAll, EnabledBySets, TuplesAreEnabled}
use Rattle.bc_params_search.proofs.Parts.{ascending_filter}
use Rattle.bc_params_search.proofs.Taken.{all_has}

all_alike : {X : Type 0} (f g : X → Bool) → ((x : X) → f x ≡ g x) → (xs : List X) → list_all f xs ≡ list_all g xs
all_alike f g h [] = refl
all_alike f g h (x ∷ xs) = ap₂ (λ (a : Bool) (b : Bool). a && b) (h x) (all_alike f g h xs)

some_alike : {X : Type 0} (o : Option X) (p q : X → Bool) → ((x : X) → p x ≡ q x) → is_some_and o p ≡ is_some_and o q
some_alike None p q h = refl
some_alike (Some x) p q h = h x

module _ (S : Plain) (bound : List Binding) (exact : (c : Binding) → is_bound bound c ≡ is_carried (slice_get S.bodies) S.tags c) where
  -- an object carries an instance, as the bindings tell
  carries_alike : (t : TypedTask) (s : TaskSets) (ns : List ℕ) (x : ℕ) (b : Body) → s.variables ≡ t.variables → slice_get S.bodies x ≡ Some b → (variable : ℕ) →
      carries_by s bound ns x variable ≡ carries S t ns b variable
  carries_alike t s ns x b e at variable =
      ap (λ (vs : List ℕ). is_some_and (slice_get vs variable) (λ type. is_some_and (slice_get ns variable) (λ n. is_bound bound (record { object = x; tag_type = type; instance = n })))) e
      ∙ some_alike (slice_get t.variables variable) (λ type. is_some_and (slice_get ns variable) (λ n. is_bound bound (record { object = x; tag_type = type; instance = n })))
      (λ type. is_some_and (slice_get ns variable) (λ n. list_any (is_instance n) b.tags && is_some_and (slice_get S.tags n) (λ own. own == type)))
      (λ type. some_alike (slice_get ns variable) (λ n. is_bound bound (record { object = x; tag_type = type; instance = n })) (λ n. list_any (is_instance n) b.tags && is_some_and (slice_get S.tags n) (λ own. own == type))
      (λ n.
      exact (record { object = x; tag_type = type; instance = n })
      ∙ ap (λ (o : Option Body). is_some_and o (λ b. list_any (is_instance n) b.tags && is_some_and (slice_get S.tags n) (λ own. own == type))) at))

  takes_alike : (t : TypedTask) (s : TaskSets) (ns : List ℕ) (p : TypedParam) (q : Place) (x : ℕ) → s.variables ≡ t.variables → IsPlace (slice_get S.bodies) p q → takes_by s bound ns q x ≡ takes S t ns p x
  takes_alike t s ns p q x e is =
      ap₂ (λ (a : Bool) (bs : List ℕ). a && list_all (carries_by s bound ns x) bs) (is.objects x) is.binds
      ∙ of_body (slice_get S.bodies x) refl
    where
      of_body : (o : Option Body) → slice_get S.bodies x ≡ o →
          (fits p o && list_all (carries_by s bound ns x) p.binds) ≡ is_some_and o (λ b. is_class p.class b.kind && guard_truth p.guard b.flags && list_all (carries S t ns b) p.binds)
      of_body None at = refl
      of_body (Some b) at =
          ap (λ (c : Bool). is_class p.class b.kind && guard_truth p.guard b.flags && c) (all_alike (carries_by s bound ns x) (carries S t ns b) (carries_alike t s ns x b e at) p.binds)

  take_all_alike : (t : TypedTask) (s : TaskSets) (ns : List ℕ) → s.variables ≡ t.variables → (ps : List TypedParam) (qs : List Place) (xs : List ℕ) → ArePlaces (slice_get S.bodies) ps qs →
      take_all_by s bound ns qs xs ≡ take_all S t ns ps xs
  take_all_alike t s ns e [] [] [] is = refl
  take_all_alike t s ns e [] [] (x ∷ xs) is = refl
  take_all_alike t s ns e [] (q ∷ qs) xs is = absurd is
  take_all_alike t s ns e (p ∷ ps) [] xs is = absurd is
  take_all_alike t s ns e (p ∷ ps) (q ∷ qs) [] is = refl
  take_all_alike t s ns e (p ∷ ps) (q ∷ qs) (x ∷ xs) is =
      ap₂ (λ (a : Bool) (b : Bool). a && b) (takes_alike t s ns p q x e is.0) (take_all_alike t s ns e ps qs xs is.1)

  -- an instance that a parameter binds is there
  takes_there : (t : TypedTask) (ns : List ℕ) (p : TypedParam) (x i n : ℕ) → takes S t ns p x ≡ true → has p.binds i ≡ true → slice_get ns i ≡ Some n → n < length S.tags
  takes_there t ns p x i n h m at = of_body (slice_get S.bodies x) h
    where
      of_type : (b : Body) (o : Option ℕ) → is_some_and o (λ type. list_any (is_instance n) b.tags && is_some_and (slice_get S.tags n) (λ own. own == type)) ≡ true → n < length S.tags
      of_type b None k = absurd (false≢true k)
      of_type b (Some type) k = inside S.tags n (λ own. own == type) (and_parts (list_any (is_instance n) b.tags) (is_some_and (slice_get S.tags n) (λ own. own == type)) k).1

      of_body : (o : Option Body) → is_some_and o (λ b. is_class p.class b.kind && guard_truth p.guard b.flags && list_all (carries S t ns b) p.binds) ≡ true → n < length S.tags
      of_body None k = absurd (false≢true k)
      of_body (Some b) k =
          of_type b (slice_get t.variables i)
          (sym (some_alike (slice_get t.variables i) (λ type. is_some_and (slice_get ns i) (λ n. list_any (is_instance n) b.tags && is_some_and (slice_get S.tags n) (λ own. own == type)))
          (λ type. list_any (is_instance n) b.tags && is_some_and (slice_get S.tags n) (λ own. own == type))
          (λ type. ap (λ (o : Option ℕ). is_some_and o (λ n. list_any (is_instance n) b.tags && is_some_and (slice_get S.tags n) (λ own. own == type))) at))
          ∙ all_has (carries S t ns b) p.binds i (and_parts (is_class p.class b.kind && guard_truth p.guard b.flags) (list_all (carries S t ns b) p.binds) k).1 m)

  bound_there : (t : TypedTask) (ns : List ℕ) (i n : ℕ) → slice_get ns i ≡ Some n → (ps : List TypedParam) (xs : List ℕ) → take_all S t ns ps xs ≡ true → list_any (λ p. has p.binds i) ps ≡ true → n < length S.tags
  bound_there t ns i n at [] xs h m = absurd (false≢true m)
  bound_there t ns i n at (p ∷ ps) [] h m = absurd (false≢true h)
  bound_there t ns i n at (p ∷ ps) (x ∷ xs) h m =
      let q = and_parts (takes S t ns p x) (take_all S t ns ps xs) h in
      elim (or_cases (has p.binds i) (list_any (λ p. has p.binds i) ps) m) [
        | inl e ↦ takes_there t ns p x i n q.0 e at
        | inr e ↦ bound_there t ns i n at ps xs q.1 e
      ]

  each_there : (ms : List ℕ) → ((i n : ℕ) → slice_get ms i ≡ Some n → n < length S.tags) → list_all (λ n. nat_lt n (length S.tags)) ms ≡ true
  each_there [] h = refl
  each_there (m ∷ ms) h =
      and_from (nat_lt m (length S.tags)) (list_all (λ n. nat_lt n (length S.tags)) ms) (lt-ltb m (length S.tags) (h zero m refl)) (each_there ms (λ i n e. h (suc i) n e))

  one_task : (t : TypedTask) (s : TaskSets) (v : Invocation) → IsTaskSets (slice_get S.bodies) t s → BindsAll t →
      ((length v.tags == length s.variables) && take_all_by s bound v.tags s.places v.objects && are_different v.objects)
      ≡ ((length v.tags == length t.variables) && take_all S t v.tags t.params v.objects && are_different v.objects && list_all (λ n. nat_lt n (length S.tags)) v.tags)
  one_task t s v is binds =
      let long = length v.tags == length t.variables in
      let taken = take_all S t v.tags t.params v.objects in
      ap₂ (λ (vs : List ℕ) (a : Bool). (length v.tags == length vs) && a && are_different v.objects) is.variables (take_all_alike t s v.tags is.variables t.params s.places v.objects is.places)
      ∙ with_more long taken (are_different v.objects) (list_all (λ n. nat_lt n (length S.tags)) v.tags)
      (λ h k.
      let few : length v.tags ≡ length t.variables = eqb-true _ _ h in
      each_there v.tags
      (λ i n at.
      let low : i < length v.tags = slice_get_within v.tags i n at in
      bound_there t v.tags i n at t.params v.objects k (binds i (omega arith))))
    where
      with_more : (a b c d : Bool) → (a ≡ true → b ≡ true → d ≡ true) → (a && b && c) ≡ (a && b && c && d)
      with_more true true true d h = sym (h refl refl)
      with_more true true false d h = refl
      with_more true false c d h = refl
      with_more false b c d h = refl

  of_tasks : (v : Invocation) (ts : List TypedTask) (ss : List TaskSets) (i : ℕ) → AreTasks (slice_get S.bodies) ts ss → AllByRecursion BindsAll ts →
      is_some_and (slice_get ss i) (λ s. (length v.tags == length s.variables) && take_all_by s bound v.tags s.places v.objects && are_different v.objects)
      ≡ is_some_and (slice_get ts i) (λ t. (length v.tags == length t.variables) && take_all S t v.tags t.params v.objects && are_different v.objects && list_all (λ n. nat_lt n (length S.tags)) v.tags)
  of_tasks v [] [] i is binds = refl
  of_tasks v [] (s ∷ ss) i is binds = absurd is
  of_tasks v (t ∷ ts) [] i is binds = absurd is
  of_tasks v (t ∷ ts) (s ∷ ss) zero is binds = one_task t s v is.0 binds.0
  of_tasks v (t ∷ ts) (s ∷ ss) (suc i) is binds = of_tasks v ts ss i is.1 binds.1

pub enabled_by_sets : EnabledBySets
enabled_by_sets P S k binds are v = of_tasks S k.bound are.bound v P.tasks k.tasks v.task are.tasks (recursion_from_All BindsAll P.tasks binds)

pub tuples_are_enabled : TuplesAreEnabled
tuples_are_enabled P S k id binds are = record {
  ascending = ascending_filter (names id) (all_enabled P S) (all_ascending P S);
  members = λ v. listed_filter (names id) (all_enabled P S) v ∙ ap (λ (b : Bool). b && names id v) (all_exact P S v ∙ sym (enabled_by_sets P S k binds are v));
}

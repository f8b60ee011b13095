-- The list of all enabled invocations, and what enabledness depends on.
use Rattle.std.proofs.Common.{◌≡◌, ℕ, zero, suc, ◌<◌, inl, inr, Bool, true, ◌&&◌, ◌==◌, List, [], ◌∷◌, map, length, Option, Some, None, refl, sym, ap, ap₂, ◌∙◌, subst, arith}
use Rattle.std.specs.Prelude.{is_some, nat_lt, slice_get}
use Rattle.std.specs.declared.cmp.Ordering.{Ordering}
use Rattle.std.specs.declared.cmp.Ordering.TheVariants.{Less}
use Rattle.std.specs.Ordering.{ordering_then, nat_cmp, is_lt}
use Rattle.std.specs.Cmp.{nat_cmp_total, tied_itself}
use Rattle.std.specs.Cmp.Lexicographic.{slice_cmp, nat_list_cmp_total}
use Rattle.std.specs.List.{AllByRecursion, list_all, list_any, range_with_len}
use Rattle.std.proofs.lemmas.Bool.{false≢true, and_parts, and_from, cases_lt, lt-ltb, le-ltb, ltb-true, eqb-true}
use Rattle.std.proofs.lemmas.List.Elements.{recursion_from_All}
use Rattle.std.proofs.lemmas.List.Kept.{AllPairs-filter}
use Rattle.std.proofs.lemmas.Option.{slice_get_past}
use Rattle.bc_data.specs.Guard.{guard_truth}
use Rattle.bc_data.specs.Typed.{TypedProgram}
use Rattle.bc_data.specs.Typed.{TypedParam}
use Rattle.bc_data.specs.Typed.{TypedTask}
use Rattle.bc_data.specs.declared.run.Body.{Body}
use Rattle.bc_data.specs.declared.run.Invocation.{Invocation}
use Rattle.bc_mean.specs.declared.plain.Plain.{Plain}
use Rattle.bc_mean.specs.Enabled.{is_some_and, carries, takes, take_all, are_different, is_class, is_instance, is_enabled, tuples, invocations_of, all_invocations, all_enabled}
use Rattle.bc_mean.specs.Orders.{precedes}
use Rattle.bc_mean.specs.Serial.{listed}
use Rattle.bc_mean.specs.Laws.{AllAscending, AllExact, NamedAlone}
use Rattle.bc_mean.proofs.Lists.{Chain, In, chain_flat_map, chain_map, chain_range, each_map, each_flat_map, in_flat_map, in_map, in_range, pairs_from_chain}
use Rattle.bc_mean.proofs.Orders.{both_ways, listed_filter, listed_in}

-- the order of lists of numbers
abbrev Below : List ℕ → List ℕ → Type 0
Below xs ys = slice_cmp nat_cmp xs ys ≡ Less

less : (x y : ℕ) → x < y → nat_cmp x y ≡ Less
less x y h = let e : nat_lt x y ≡ true = lt-ltb x y h in rw e refl

below_first : (x y : ℕ) (xs ys : List ℕ) → x < y → Below (x ∷ xs) (y ∷ ys)
below_first x y xs ys h = ap (λ (o : Ordering). ordering_then o (slice_cmp nat_cmp xs ys)) (less x y h)

below_later : (x : ℕ) (xs ys : List ℕ) → Below xs ys → Below (x ∷ xs) (x ∷ ys)
below_later x xs ys h = ap (λ (o : Ordering). ordering_then o (slice_cmp nat_cmp xs ys)) (tied_itself nat_cmp_total x) ∙ h

-- a list that begins with x
abbrev Begins : ℕ → List ℕ → Type 0
Begins x xs = (rest : List ℕ) × (xs ≡ x ∷ rest)

tuples_chain : (n k : ℕ) → Chain Below (tuples n k)
tuples_chain n zero = (tt, tt)
tuples_chain n (suc k) =
    chain_flat_map (λ x y. x < y) Below (λ x. map (λ xs. x ∷ xs) (tuples n k)) Begins
    (λ x. each_map (Begins x) (λ xs. x ∷ xs) (λ xs. (xs, refl)) (tuples n k))
    (λ x y a b l p q. subst (λ (z : List ℕ). Below z b) (sym p.1) (subst (Below (x ∷ p.0)) (sym q.1) (below_first x y p.0 q.0 l)))
    (λ x. chain_map Below Below (λ xs. x ∷ xs) (λ u v h. below_later x u v h) (tuples n k) (tuples_chain n k))
    (range_with_len 0 n) (chain_range 0 n)

abbrev Before : Invocation → Invocation → Type 0
Before v w = precedes v w ≡ true

-- the order from its parts
by_task : (v w : Invocation) → v.task < w.task → Before v w
by_task v w h = ap (λ (o : Ordering). is_lt (ordering_then o (ordering_then (slice_cmp nat_cmp v.objects w.objects) (slice_cmp nat_cmp v.tags w.tags)))) (less v.task w.task h)

by_objects : (v w : Invocation) → v.task ≡ w.task → Below v.objects w.objects → Before v w
by_objects v w e h =
    ap (λ (o : Ordering). is_lt (ordering_then o (ordering_then (slice_cmp nat_cmp v.objects w.objects) (slice_cmp nat_cmp v.tags w.tags)))) (ap (nat_cmp v.task) (sym e) ∙ tied_itself nat_cmp_total v.task)
    ∙ ap (λ (o : Ordering). is_lt (ordering_then o (slice_cmp nat_cmp v.tags w.tags))) h

by_tags : (v w : Invocation) → v.task ≡ w.task → v.objects ≡ w.objects → Below v.tags w.tags → Before v w
by_tags v w e f h =
    ap (λ (o : Ordering). is_lt (ordering_then o (ordering_then (slice_cmp nat_cmp v.objects w.objects) (slice_cmp nat_cmp v.tags w.tags)))) (ap (nat_cmp v.task) (sym e) ∙ tied_itself nat_cmp_total v.task)
    ∙ (ap (λ (o : Ordering). is_lt (ordering_then o (slice_cmp nat_cmp v.tags w.tags))) (ap (slice_cmp nat_cmp v.objects) (sym f) ∙ tied_itself nat_list_cmp_total v.objects)
    ∙ ap is_lt h)

abbrev invocation : ℕ → List ℕ → List ℕ → Invocation
invocation n objects instances = record { task = n; objects = objects; tags = instances }

-- of this task and these objects
abbrev IsOn : ℕ → List ℕ → Invocation → Type 0
IsOn n objects v = (v.task ≡ n) × (v.objects ≡ objects)

task_chain : (S : Plain) (n : ℕ) (o : Option TypedTask) → Chain Before (invocations_of S n o)
task_chain S n None = tt
task_chain S n (Some t) =
    let instances = tuples (length S.tags) (length t.variables) in
    chain_flat_map Below Before (λ objects. map (invocation n objects) instances) (IsOn n)
    (λ objects. each_map (IsOn n objects) (invocation n objects) (λ tags. (refl, refl)) instances)
    (λ x y a b l p q. by_objects a b (p.0 ∙ sym q.0) (subst (λ (z : List ℕ). Below z b.objects) (sym p.1) (subst (Below x) (sym q.1) l)))
    (λ objects. chain_map Below Before (invocation n objects) (λ u v h. by_tags (invocation n objects u) (invocation n objects v) refl refl h) instances (tuples_chain (length S.tags) (length t.variables)))
    (tuples (length S.bodies) (length t.params)) (tuples_chain (length S.bodies) (length t.params))

of_task : (S : Plain) (n : ℕ) (o : Option TypedTask) → AllByRecursion (λ v. v.task ≡ n) (invocations_of S n o)
of_task S n None = tt
of_task S n (Some t) =
    let instances = tuples (length S.tags) (length t.variables) in
    each_flat_map (λ v. v.task ≡ n) (λ objects. map (invocation n objects) instances)
    (λ objects. each_map (λ v. v.task ≡ n) (invocation n objects) (λ tags. refl) instances)
    (tuples (length S.bodies) (length t.params))

all_chain : (P : TypedProgram) (S : Plain) → Chain Before (all_invocations P S)
all_chain P S =
    chain_flat_map (λ x y. x < y) Before (λ n. invocations_of S n (slice_get P.tasks n)) (λ n v. v.task ≡ n)
    (λ n. of_task S n (slice_get P.tasks n))
    (λ x y a b l p q. by_task a b (omega arith))
    (λ n. task_chain S n (slice_get P.tasks n))
    (range_with_len 0 (length P.tasks)) (chain_range 0 (length P.tasks))

pub all_ascending : AllAscending
unfolding all_enabled
all_ascending P S = AllPairs-filter Before (is_enabled P S) (all_invocations P S) (pairs_from_chain Before (all_invocations P S) (all_chain P S))

-- each enabled invocation is among those that can be named
pub inside : {X : Type 0} (xs : List X) (i : ℕ) (test : X → Bool) → is_some_and (slice_get xs i) test ≡ true → i < length xs
inside {X = X} xs i test h = elim (cases_lt i (length xs)) [
  | inl l ↦ l
  | inr l ↦ absurd (false≢true (sym (ap (λ (o : Option X). is_some_and o test) (slice_get_past xs i l)) ∙ h))
]

in_tuples : (n k : ℕ) (xs : List ℕ) → length xs ≡ k → AllByRecursion (λ x. x < n) xs → In xs (tuples n k)
in_tuples n zero [] e h = inl refl
in_tuples n zero (x ∷ xs) e h = absurd (omega arith)
in_tuples n (suc k) [] e h = absurd (omega arith)
in_tuples n (suc k) (x ∷ xs) e h =
    in_flat_map (λ y. map (λ ys. y ∷ ys) (tuples n k)) x (x ∷ xs) (range_with_len 0 n) (in_range 0 n x (omega arith) (omega (arith, h.0)))
    (in_map (λ ys. x ∷ ys) xs (tuples n k) (in_tuples n k xs (omega arith) h.1))

taken : (S : Plain) (t : TypedTask) (instances : List ℕ) (ps : List TypedParam) (ids : List ℕ) → take_all S t instances ps ids ≡ true → (length ids ≡ length ps) × AllByRecursion (λ id. id < length S.bodies) ids
taken S t instances [] [] h = (refl, tt)
taken S t instances [] (id ∷ ids) h = absurd (false≢true h)
taken S t instances (p ∷ ps) [] h = absurd (false≢true h)
taken S t instances (p ∷ ps) (id ∷ ids) h =
    let q = and_parts (takes S t instances p id) (take_all S t instances ps ids) h in
    let r = taken S t instances ps ids q.1 in
    (omega arith, (inside S.bodies id _ q.0, r.1))

named_there : (m : ℕ) (ns : List ℕ) → list_all (λ n. nat_lt n m) ns ≡ true → AllByRecursion (λ n. n < m) ns
named_there m [] h = tt
named_there m (n ∷ ns) h = let q = and_parts (nat_lt n m) (list_all (λ k. nat_lt k m) ns) h in (ltb-true n m q.0, named_there m ns q.1)

-- that an invocation is enabled, of its task
abbrev enabled_task : Plain → Invocation → TypedTask → Bool
enabled_task S v t =
    (length v.tags == length t.variables) && take_all S t v.tags t.params v.objects && are_different v.objects
    && list_all (λ n. nat_lt n (length S.tags)) v.tags

in_task : (S : Plain) (v : Invocation) (o : Option TypedTask) → is_some_and o (enabled_task S v) ≡ true → In v (invocations_of S v.task o)
in_task S v None h = absurd (false≢true h)
in_task S v (Some t) h =
    let there = list_all (λ n. nat_lt n (length S.tags)) v.tags in
    let fits = take_all S t v.tags t.params v.objects in
    let long = length v.tags == length t.variables in
    let q = and_parts (long && fits && are_different v.objects) there h in
    let r = and_parts (long && fits) (are_different v.objects) q.0 in
    let s = and_parts long fits r.0 in
    let k = taken S t v.tags t.params v.objects s.1 in
    let instances = tuples (length S.tags) (length t.variables) in
    in_flat_map (λ objects. map (invocation v.task objects) instances) v.objects v (tuples (length S.bodies) (length t.params))
    (in_tuples (length S.bodies) (length t.params) v.objects k.0 k.1)
    (in_map (invocation v.task v.objects) v.tags instances (in_tuples (length S.tags) (length t.variables) v.tags (eqb-true _ _ s.0) (named_there (length S.tags) v.tags q.1)))

in_all : (P : TypedProgram) (S : Plain) (v : Invocation) → is_enabled P S v ≡ true → In v (all_invocations P S)
in_all P S v h =
    in_flat_map (λ n. invocations_of S n (slice_get P.tasks n)) v.task v (range_with_len 0 (length P.tasks))
    (in_range 0 (length P.tasks) v.task (omega arith) (let l : v.task < length P.tasks = inside P.tasks v.task (enabled_task S v) h in omega arith))
    (in_task S v (slice_get P.tasks v.task) h)

pub all_exact : AllExact
unfolding all_enabled
all_exact P S v =
    listed_filter (is_enabled P S) (all_invocations P S) v
    ∙ both_ways (listed (all_invocations P S) v && is_enabled P S v) (is_enabled P S v)
    (λ h. (and_parts (listed (all_invocations P S) v) (is_enabled P S v) h).1)
    (λ h. and_from (listed (all_invocations P S) v) (is_enabled P S v) (listed_in v (all_invocations P S) (in_all P S v h)) h)

-- what enabledness depends on
some_inside : {X : Type 0} {x y : X} → Some x ≡ Some y → x ≡ y
some_inside e = cc

no_some : {X : Type 0} {x : X} → ◌≡◌ {A = Option X} None (Some x) → ⊥
no_some e = cc

got : {X : Type 0} (P : X → Type 0) (xs : List X) (i : ℕ) (x : X) → AllByRecursion P xs → slice_get xs i ≡ Some x → P x
got P [] i x h e = absurd (no_some e)
got P (y ∷ ys) zero x h e = subst P (some_inside e) h.0
got P (y ∷ ys) (suc i) x h e = got P ys i x h.1 e

there : {X : Type 0} (xs : List X) (i : ℕ) → nat_lt i (length xs) ≡ is_some (slice_get xs i)
there [] i = le-ltb i 0 (omega arith)
there (x ∷ xs) zero = lt-ltb 0 (suc (length xs)) (omega arith)
there (x ∷ xs) (suc i) = shift i (length xs) ∙ there xs i
  where
    shift : (a b : ℕ) → nat_lt (suc a) (suc b) ≡ nat_lt a b
    shift a b = both_ways (nat_lt (suc a) (suc b)) (nat_lt a b) (λ h. let l : suc a < suc b = ltb-true _ _ h in lt-ltb a b (omega arith)) (λ h. let l : a < b = ltb-true _ _ h in lt-ltb (suc a) (suc b) (omega arith))

all_alike : {X : Type 0} (f g : X → Bool) → ((x : X) → f x ≡ g x) → (xs : List X) → list_all f xs ≡ list_all g xs
all_alike f g h [] = refl
all_alike f g h (x ∷ xs) = ap₂ (λ (a : Bool) (b : Bool). a && b) (h x) (all_alike f g h xs)

module _ (S T : Plain) where
  -- the type of an instance is the same in both
  abbrev SameType : ℕ → Type 0
  SameType n = slice_get S.tags n ≡ slice_get T.tags n

  abbrev SameBody : ℕ → Type 0
  SameBody id = slice_get S.bodies id ≡ slice_get T.bodies id

  types_alone : (mine : ℕ → Bool) (ask : ℕ → Bool) (o : Option ℕ) → ((n : ℕ) → o ≡ Some n → SameType n) →
      is_some_and o (λ n. mine n && is_some_and (slice_get S.tags n) ask) ≡ is_some_and o (λ n. mine n && is_some_and (slice_get T.tags n) ask)
  types_alone mine ask None h = refl
  types_alone mine ask (Some n) h = ap (λ (o : Option ℕ). mine n && is_some_and o ask) (h n refl)

  carries_alone : (t : TypedTask) (instances : List ℕ) → AllByRecursion SameType instances → (b : Body) (variable : ℕ) → carries S t instances b variable ≡ carries T t instances b variable
  carries_alone t instances h b variable = of_type (slice_get t.variables variable)
    where
      of_type : (o : Option ℕ) →
          is_some_and o (λ type. is_some_and (slice_get instances variable) (λ n. list_any (is_instance n) b.tags && is_some_and (slice_get S.tags n) (λ own. own == type)))
          ≡ is_some_and o (λ type. is_some_and (slice_get instances variable) (λ n. list_any (is_instance n) b.tags && is_some_and (slice_get T.tags n) (λ own. own == type)))
      of_type None = refl
      of_type (Some type) = types_alone (λ n. list_any (is_instance n) b.tags) (λ own. own == type) (slice_get instances variable) (λ n e. got SameType instances variable n h e)

  takes_alone : (t : TypedTask) (instances : List ℕ) → AllByRecursion SameType instances → (p : TypedParam) (id : ℕ) → SameBody id → takes S t instances p id ≡ takes T t instances p id
  takes_alone t instances h p id e = of_body (slice_get S.bodies id) ∙ ap (λ (o : Option Body). is_some_and o (fits_in T)) e
    where
      fits_in : Plain → Body → Bool
      fits_in U b = is_class p.class b.kind && guard_truth p.guard b.flags && list_all (carries U t instances b) p.binds

      of_body : (o : Option Body) → is_some_and o (fits_in S) ≡ is_some_and o (fits_in T)
      of_body None = refl
      of_body (Some b) = ap (λ (c : Bool). is_class p.class b.kind && guard_truth p.guard b.flags && c) (all_alike (carries S t instances b) (carries T t instances b) (carries_alone t instances h b) p.binds)

  take_all_alone : (t : TypedTask) (instances : List ℕ) → AllByRecursion SameType instances → (ps : List TypedParam) (ids : List ℕ) → AllByRecursion SameBody ids → take_all S t instances ps ids ≡ take_all T t instances ps ids
  take_all_alone t instances h [] [] a = refl
  take_all_alone t instances h [] (id ∷ ids) a = refl
  take_all_alone t instances h (p ∷ ps) [] a = refl
  take_all_alone t instances h (p ∷ ps) (id ∷ ids) a = ap₂ (λ (b : Bool) (c : Bool). b && c) (takes_alone t instances h p id a.0) (take_all_alone t instances h ps ids a.1)

  there_alone : (ns : List ℕ) → AllByRecursion SameType ns → list_all (λ n. nat_lt n (length S.tags)) ns ≡ list_all (λ n. nat_lt n (length T.tags)) ns
  there_alone [] h = refl
  there_alone (n ∷ ns) h = ap₂ (λ (b : Bool) (c : Bool). b && c) (there S.tags n ∙ ap is_some h.0 ∙ sym (there T.tags n)) (there_alone ns h.1)

  task_alone : (v : Invocation) → AllByRecursion SameBody v.objects → AllByRecursion SameType v.tags → (o : Option TypedTask) → is_some_and o (enabled_task S v) ≡ is_some_and o (enabled_task T v)
  task_alone v a h None = refl
  task_alone v a h (Some t) =
      ap₂ (λ (b : Bool) (c : Bool). (length v.tags == length t.variables) && b && are_different v.objects && c) (take_all_alone t v.tags h t.params v.objects a) (there_alone v.tags h)

pub named_alone : NamedAlone
named_alone P S T v a h =
    task_alone S T v (recursion_from_All (SameBody S T) v.objects a) (recursion_from_All (SameType S T) v.tags h) (slice_get P.tasks v.task)

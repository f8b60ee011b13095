-- At the start at most one invocation of each task is enabled.
use Rattle.std.proofs.Common.{◌≡◌, ℕ, zero, suc, ◌+◌, ◌<◌, ◌≤◌, inl, inr, true, false, not, ◌&&◌, ◌==◌, List, [], ◌∷◌, length, refl, sym, ap, ◌∙◌, subst, arith}
use Rattle.std.specs.Prelude.{All, nat_lt}
use Rattle.std.specs.declared.cmp.Ordering.{Ordering}
use Rattle.std.specs.declared.cmp.Ordering.TheVariants.{Greater}
use Rattle.std.specs.Cmp.Lexicographic.{slice_cmp}
use Rattle.std.specs.Ordering.{is_lt, nat_cmp, ordering_then}
use Rattle.std.specs.List.{AllByRecursion, list_all, list_any}
use Rattle.std.proofs.lemmas.Bool.{and_parts, cases_order, eq-eqb, false≢true, le-ltb, ne_eqb, not-true, or_left}
use Rattle.std.proofs.lemmas.List.{length-map}
use Rattle.std.proofs.lemmas.Option.{slice_get_within}
use Rattle.bc_data.specs.Guard.{guard_truth}
use Rattle.bc_data.specs.Typed.{TypedParam, TypedProgram, TypedTask}
use Rattle.bc_data.specs.WellTyped.{IsWellTyped}
use Rattle.bc_data.specs.declared.run.Invocation.{Invocation}
use Rattle.bc_mean.specs.Enabled.{all_enabled, are_different, carries, is_enabled, take_all, takes}
use Rattle.bc_mean.specs.Orders.{precedes}
use Rattle.bc_mean.specs.Serial.{listed}
use Rattle.bc_mean.specs.Store.{input_array, start_store}
use Rattle.bc_mean.proofs.Enabled.{all_ascending, all_exact}
use Rattle.bc_mean.proofs.Lists.{Chain, chain_from_pairs, each_weaker}
use Rattle.bc_mean.proofs.Orders.{never_before_itself, same_parts}
use Rattle.bc_book_events.specs.SoundLaws.{StartIsRoomy}
use Rattle.bc_book_events.proofs.Exact.{each_itself}
use Rattle.bc_book_events.proofs.Reshaped.{enabled_of, typed_task}

none_below : (ns : List ℕ) → All (λ n. n < 0) ns → ns ≡ []
none_below [] h = refl
none_below (n ∷ ns) h = let l : n < 0 = h zero n (omega arith) in absurd (omega (arith, l))

-- only the startup object is of a class
is_startup : (input : List ℕ) (t : TypedTask) (instances : List ℕ) (p : TypedParam) (id : ℕ) → takes (start_store input) t instances p id ≡ true → id ≡ 0
is_startup input t instances p zero h = refl
is_startup input t instances p (suc zero) h =
    let q = and_parts (false && guard_truth p.guard 0) (list_all (carries (start_store input) t instances (input_array input)) p.binds) h in
    absurd (false≢true q.0)
is_startup input t instances p (suc (suc k)) h = absurd (false≢true h)

are_startup : (input : List ℕ) (t : TypedTask) (instances : List ℕ) (ps : List TypedParam) (ids : List ℕ) → take_all (start_store input) t instances ps ids ≡ true → (length ids ≡ length ps) × AllByRecursion (λ id. id ≡ 0) ids
are_startup input t instances [] [] h = (refl, tt)
are_startup input t instances [] (id ∷ ids) h = absurd (false≢true h)
are_startup input t instances (p ∷ ps) [] h = absurd (false≢true h)
are_startup input t instances (p ∷ ps) (id ∷ ids) h =
    let q = and_parts (takes (start_store input) t instances p id) (take_all (start_store input) t instances ps ids) h in
    let r = are_startup input t instances ps ids q.1 in
    (ap suc r.0, (is_startup input t instances p id q.0, r.1))

just_one : (ids : List ℕ) → AllByRecursion (λ id. id ≡ 0) ids → are_different ids ≡ true → 0 < length ids → ids ≡ 0 ∷ []
just_one [] a d l = absurd (omega arith)
just_one (id ∷ []) a d l = ap (λ n. n ∷ []) a.0
just_one (id ∷ other ∷ ids) a d l =
    let q = and_parts (not (list_any (λ o. o == id) (other ∷ ids))) (are_different (other ∷ ids)) d in
    absurd (false≢true (sym (not-true (list_any (λ o. o == id) (other ∷ ids)) q.0) ∙ or_left (other == id) (list_any (λ o. o == id) ids) (eq-eqb other id (a.1.0 ∙ sym a.0))))

-- an invocation of a task on the startup object
abbrev IsFirst : Invocation → Type 0
IsFirst v = (v.objects ≡ 0 ∷ []) × (v.tags ≡ []) × (v.task < 256)

first_enabled : (P : TypedProgram) (input : List ℕ) → IsWellTyped P → (v : Invocation) → is_enabled P (start_store input) v ≡ true → IsFirst v
first_enabled P input typed v h =
    let e = enabled_of P (start_store input) v h in
    let r = are_startup input e.task v.tags e.task.params v.objects e.taken in
    let some = (typed_task P typed v.task e.task e.here).some_params in
    let within = slice_get_within P.tasks v.task e.task e.here in (
      just_one v.objects r.1 e.different (omega (arith, r.0, some)),
      none_below v.tags e.present,
      omega (arith, within, typed.few_tasks),
    )

-- such invocations are in order by their tasks
task_below : (v w : Invocation) → IsFirst v → IsFirst w → precedes v w ≡ true → v.task < w.task
task_below v w a b h = elim (cases_order v.task w.task) [
  | inl e ↦ absurd (false≢true (sym (never_before_itself w) ∙ subst (λ (u : Invocation). precedes u w ≡ true) (same_parts v w e (a.0 ∙ sym b.0) (a.1 ∙ sym b.1)) h))
  | inr d ↦ elim d [
    | inl l ↦ l
    | inr l ↦ absurd (false≢true (sym (ap (λ (o : Ordering). is_lt (ordering_then o (ordering_then (slice_cmp nat_cmp v.objects w.objects) (slice_cmp nat_cmp v.tags w.tags)))) (greater v.task w.task l)) ∙ h))
  ]
]
  where
    greater : (x y : ℕ) → y < x → nat_cmp x y ≡ Greater
    greater x y l = let e : nat_lt x y ≡ false = le-ltb x y (omega arith) in let f : (x == y) ≡ false = ne_eqb x y (λ e. omega arith) in rw (e, f) refl

each_below : (v : Invocation) (ws : List Invocation) → IsFirst v → AllByRecursion IsFirst ws → AllByRecursion (λ w. precedes v w ≡ true) ws → AllByRecursion (λ w. (v.task + 1 ≤ w.task) × (w.task < 256)) ws
each_below v [] f a h = tt
each_below v (w ∷ ws) f a h = let l : v.task < w.task = task_below v w f a.0 h.0 in ((omega (arith, l), a.0.2), each_below v ws f a.1 h.1)

count : (vs : List Invocation) (from : ℕ) → from ≤ 256 → AllByRecursion IsFirst vs → Chain (λ v w. precedes v w ≡ true) vs → AllByRecursion (λ v. (from ≤ v.task) × (v.task < 256)) vs → from + length vs ≤ 256
count [] from l a c h = omega arith
count (v ∷ vs) from l a c h =
    let low : from ≤ v.task = h.0.0 in
    let high : v.task < 256 = h.0.1 in
    let k : v.task + 1 + length vs ≤ 256 = count vs (v.task + 1) (omega (arith, high)) a.1 c.1 (each_below v vs a.0 a.1 c.0) in
    omega (arith, k, low)

pub start_is_roomy : StartIsRoomy
start_is_roomy P input typed =
    let S = start_store input in
    let each : AllByRecursion IsFirst (all_enabled P S) = each_weaker (λ v. listed (all_enabled P S) v ≡ true) IsFirst (λ v h. first_enabled P input typed v (sym (all_exact P S v) ∙ h)) (all_enabled P S) (each_itself (all_enabled P S)) in
    let few : 0 + length (all_enabled P S) ≤ 256 = count (all_enabled P S) 0 (omega arith) each (chain_from_pairs (λ v w. precedes v w ≡ true) (all_enabled P S) (all_ascending P S)) (each_weaker IsFirst (λ v. (0 ≤ v.task) × (v.task < 256)) (λ v f. (omega arith, f.2)) (all_enabled P S) each) in
    le-ltb 262144 (length (all_enabled P S)) (omega (arith, few))

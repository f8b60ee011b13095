-- The steps of a run keep it sound.
use Rattle.std.proofs.Common.{◌≡◌, ◌≢◌, ℕ, zero, suc, ◌<◌, ◌≤◌, Bool, true, false, not, cond, ◌&&◌, ◌||◌, ◌==◌, List, [], ◌∷◌, ◌++◌, length, filter, Option, Some, None, refl, sym, ap, ap₂, ◌∙◌, subst, arith, length-append}
use Rattle.std.specs.Prelude.{AllPairs, option_and_then}
use Rattle.std.specs.List.{AllByRecursion, list_any}
use Rattle.std.proofs.lemmas.Bool.{false≢true, and_parts, or_parts, cond_both, eqb-true, eqb-false, false_from_ne_true, not-true}
use Rattle.std.proofs.lemmas.List.Elements.{All-from_recursion, filter_passes, recursion_from_All}
use Rattle.std.proofs.lemmas.List.Kept.{AllPairs-filter}
use Rattle.std.proofs.lemmas.List.Quantifiers.{all_pairs_push}
use Rattle.bc_data.specs.Typed.{TypedProgram}
use Rattle.bc_data.specs.declared.run.Fault.{Fault}
use Rattle.bc_data.specs.declared.run.Invocation.{Invocation}
use Rattle.bc_data.specs.declared.run.Ran.{Ran}
use Rattle.bc_data.specs.declared.run.Ran.TheVariants as ran
use Rattle.bc_data.specs.declared.run.Stop.{Stop}
use Rattle.bc_data.specs.declared.run.Stop.TheVariants as stop
use Rattle.bc_mean.specs.declared.plain.Plain.{Plain}
use Rattle.bc_mean.specs.Store.{start_store}
use Rattle.bc_mean.specs.Enabled.{is_enabled, all_enabled}
use Rattle.bc_mean.specs.Changes.{apply_changes, changed_objects}
use Rattle.bc_mean.specs.Outcome.{outcome}
use Rattle.bc_mean.specs.Orders.{precedes}
use Rattle.bc_mean.specs.Serial.{Course, EndsAs, Failed, after_commit, after_ran, committed, course_at_start, has_failure, is_crowded, is_untouched, listed, replay_from, same_invocation, serial_step, serial_steps, step_pending, step_ran, step_unless, stopped}
use Rattle.bc_mean.specs.Sound.{Commits, IsSound, StopsFor}
use Rattle.bc_mean.specs.Laws.{KeepsSound}
use Rattle.bc_mean.proofs.Course.{replay_parts}
use Rattle.bc_mean.proofs.Enabled.{all_ascending, all_exact}
use Rattle.bc_mean.proofs.Lists.{across, chain_append, chain_from_pairs, each_weaker, pairs_from_chain}
use Rattle.bc_mean.proofs.Orders.{each_listed, listed_append, listed_filter, listed_here, listed_later, never_before_itself, same_itself, same_true}

abbrev Differ : Invocation → Invocation → Type 0
Differ v w = v ≢ w

abbrev DifferentFailures : Failed → Failed → Type 0
DifferentFailures f g = f.v ≢ g.v

none_of : {X : Type 0} (p : X → Bool) (xs : List X) → list_any p xs ≡ false → AllByRecursion (λ x. p x ≡ false) xs
none_of p [] h = tt
none_of p (x ∷ xs) h = let q = or_parts (p x) (list_any p xs) h in (q.0, none_of p xs q.1)

any_push : {X : Type 0} (p : X → Bool) (xs : List X) (y : X) → list_any p (xs ++ y ∷ []) ≡ (list_any p xs || p y)
any_push p [] y = grind arith
any_push p (x ∷ xs) y = let h = any_push p xs y in grind (arith, h)

none_filter : {X : Type 0} (p q : X → Bool) (xs : List X) → list_any p xs ≡ false → list_any p (filter q xs) ≡ false
none_filter p q [] h = refl
none_filter p q (x ∷ xs) h =
    let s = or_parts (p x) (list_any p xs) h in
    let t : list_any p (filter q xs) ≡ false = none_filter p q xs s.1 in
    let u : list_any p (x ∷ filter q xs) ≡ false = let a : p x ≡ false = s.0 in grind (arith, a, t) in
    cond_both (q x) (x ∷ filter q xs) (filter q xs) (λ l. list_any p l ≡ false) (λ _. u) (λ _. t)

tail_pairs : {X : Type 0} (R : X → X → Type 0) (x : X) (xs : List X) → AllPairs R (x ∷ xs) → AllPairs R xs
tail_pairs R x xs h = λ i j d a b. h (suc i) (suc j) d (omega arith) (omega arith)

-- of a list without repeats, the first is none of the others
first_alone : (v : Invocation) (rest : List Invocation) (w : Invocation) → AllPairs Differ (v ∷ rest) → same_invocation w v ≡ true → listed rest w ≡ false
first_alone v rest w h e =
    false_from_ne_true (listed rest w) (λ t. each_listed (Differ v) rest w (chain_from_pairs Differ (v ∷ rest) h).0 t (sym (same_true w v e)))

fault_bools : (s p e f : Bool) → (s || p) ≡ (e && not f) → (s ≡ true → p ≡ false) → p ≡ (e && not (f || s))
fault_bools s p e f x n = grind (arith, x, n)

commit_bools : (p e k : Bool) → (p ≡ true → k ≡ false) → ((p && e) || (e && (not (p && e) && (true && not k)))) ≡ (e && not k)
commit_bools p e k n = grind (arith, n)

both_true : (e f : Bool) → (e && not f) ≡ true → (e ≡ true) × (f ≡ false)
both_true e f h = let q = and_parts e (not f) h in (q.0, not-true f q.1)

no_failure : (failures : List Failed) (v : Invocation) → has_failure failures v ≡ false → (touched : List ℕ) (f : Fault) → AllByRecursion (λ g. DifferentFailures g (record { v = v; fault = f; touched = touched })) failures
no_failure failures v h touched f =
    each_weaker (λ g. same_invocation v g.v ≡ false) (λ g. g.v ≢ v) (λ g n e. false≢true (sym n ∙ subst (λ (z : Invocation). same_invocation v z ≡ true) (sym e) (same_itself v))) failures
    (none_of (λ g. same_invocation v g.v) failures h)

each_itself : (vs : List Invocation) → AllByRecursion (λ v. listed vs v ≡ true) vs
each_itself [] = tt
each_itself (v ∷ vs) = (listed_here v vs, each_weaker (λ w. listed vs w ≡ true) (λ w. listed (v ∷ vs) w ≡ true) (λ w h. listed_later v vs w h) vs (each_itself vs))

before_differ : (v w : Invocation) → precedes v w ≡ true → v ≢ w
before_differ v w h e = false≢true (sym (never_before_itself v) ∙ subst (λ (z : Invocation). precedes v z ≡ true) (sym e) h)

all_once : (P : TypedProgram) (S : Plain) → AllPairs Differ (all_enabled P S)
all_once P S = λ i j d a b. before_differ _ _ (all_ascending P S i j d a b)

module _ (P : TypedProgram) (input : List ℕ) (limit : ℕ) (r : Course) (sound : IsSound P input limit r) where
  stopped_sound : (s : Stop) → StopsFor P limit (stopped s r) (Some s) → IsSound P input limit (stopped s r)
  stopped_sound s h = record {
    replayed = sound.replayed;
    within = sound.within;
    once = sound.once;
    pending = sound.pending;
    failed_once = sound.failed_once;
    stop = h;
  }

  module _ (v : Invocation) (rest : List Invocation) (first : r.pending ≡ v ∷ rest) where
    its_pending : (w : Invocation) → listed (v ∷ rest) w ≡ (is_enabled P r.store w && not (has_failure r.failures w))
    its_pending w = ap (λ (l : List Invocation). listed l w) (sym first) ∙ sound.pending w

    its_once : AllPairs Differ (v ∷ rest)
    its_once = subst (AllPairs Differ) first sound.once

    itself : (is_enabled P r.store v ≡ true) × (has_failure r.failures v ≡ false)
    itself = both_true (is_enabled P r.store v) (has_failure r.failures v) (sym (its_pending v) ∙ listed_here v rest)

    fault_sound : (f : Fault) (touched : List ℕ) → r.ended ≡ None → IsSound P input limit (step_ran P limit (ran.Faulted f) touched v rest r)
    fault_sound f touched none = record {
      replayed = sound.replayed;
      within = sound.within;
      once = tail_pairs Differ v rest its_once;
      pending = λ w.
          fault_bools (same_invocation w v) (listed rest w) (is_enabled P r.store w) (has_failure r.failures w) (its_pending w) (first_alone v rest w its_once)
          ∙ ap (λ (b : Bool). is_enabled P r.store w && not b) (sym (any_push (λ g. same_invocation w g.v) r.failures failure));
      failed_once = all_pairs_push DifferentFailures r.failures failure sound.failed_once
          (λ k d l. All-from_recursion (λ g. DifferentFailures g failure) r.failures (no_failure r.failures v itself.1 touched f) k d l);
      stop = subst (StopsFor P limit (step_ran P limit (ran.Faulted f) touched v rest r)) (sym none) tt;
    }
      where
        failure : Failed
        failure = record { v = v; fault = f; touched = touched }

    commit_sound : (T : Plain) → after_commit P r.store v ≡ Some T → length r.history < limit → IsSound P input limit (committed P T v rest r)
    commit_sound T leads below = record {
      replayed =
          replay_parts P (start_store input) r.history (v ∷ [])
          ∙ (ap (option_and_then (λ S. replay_from P S (v ∷ []))) sound.replayed ∙ ap (option_and_then (λ S. replay_from P S [])) leads);
      within = omega (arith, length-append r.history (v ∷ []));
      once =
          pairs_from_chain Differ (kept ++ others)
          (chain_append Differ kept others (chain_from_pairs Differ kept (AllPairs-filter Differ (is_enabled P T) rest (tail_pairs Differ v rest its_once)))
          (chain_from_pairs Differ others (AllPairs-filter Differ wanted (all_enabled P T) (all_once P T)))
          (across Differ (λ w. listed kept w ≡ true) (λ w. wanted w ≡ true) (λ x y a b. apart x y a b) kept others (each_itself kept) (recursion_from_All (λ w. wanted w ≡ true) others (filter_passes wanted (all_enabled P T)))));
      pending = λ w.
          listed_append kept others w
          ∙ (ap₂ (λ (b : Bool) (c : Bool). b || c) (listed_filter (is_enabled P T) rest w)
          (listed_filter wanted (all_enabled P T) w
          ∙ ap₂ (λ (b : Bool) (c : Bool). b && (not c && (true && not (has_failure left w)))) (all_exact P T w) (listed_filter (is_enabled P T) rest w))
          ∙ commit_bools (listed rest w) (is_enabled P T w) (has_failure left w) (λ h. none_filter (λ g. same_invocation w g.v) (is_untouched changed) r.failures (both_true (is_enabled P r.store w) (has_failure r.failures w) (sym (its_pending w) ∙ listed_later v rest w h)).1));
      failed_once = AllPairs-filter DifferentFailures (is_untouched changed) r.failures sound.failed_once;
      stop = tt;
    }
      where
        changed : List ℕ
        changed = changed_objects r.store T

        left : List Failed
        left = filter (is_untouched changed) r.failures

        kept : List Invocation
        kept = filter (is_enabled P T) rest

        wanted : Invocation → Bool
        wanted w = not (listed kept w) && (not (listed [] w) && not (has_failure left w))

        others : List Invocation
        others = filter wanted (all_enabled P T)

        apart : (x y : Invocation) → listed kept x ≡ true → wanted y ≡ true → x ≢ y
        apart x y a b e = false≢true (sym (not-true (listed kept y) (and_parts (not (listed kept y)) (not (listed [] y) && not (has_failure left y)) b).0) ∙ subst (λ (z : Invocation). listed kept z ≡ true) e a)

    ran_sound : (n : Ran) (touched : List ℕ) → (outcome P r.store v).ran ≡ n → r.ended ≡ None → IsSound P input limit (step_ran P limit n touched v rest r)
    ran_sound (ran.Faulted f) touched o none = fault_sound f touched none
    ran_sound (ran.Commit c) touched o none =
        let T = apply_changes r.store c in
        let commits : Commits P r.store v c = record { enabled = itself.0; commit = o } in
        cond_both (length r.history == limit) (stopped (stop.Spent v) r) (cond (is_crowded P T) (stopped (stop.Crowded v) r) (committed P T v rest r)) (IsSound P input limit)
        (λ e. stopped_sound (stop.Spent v) (eqb-true (length r.history) limit e, (c, commits)))
        (λ e.
        let ne : length r.history ≡ limit → ⊥ = eqb-false (length r.history) limit e in
        let within : length r.history ≤ limit = sound.within in
        let below : length r.history < limit = omega (arith, ne) in
        cond_both (is_crowded P T) (stopped (stop.Crowded v) r) (committed P T v rest r) (IsSound P input limit)
        (λ crowded. stopped_sound (stop.Crowded v) (below, (c, commits, crowded)))
        (λ roomy. commit_sound T (ap (λ (b : Bool). cond b (after_ran P r.store (outcome P r.store v).ran) None) itself.0 ∙ (ap (after_ran P r.store) o ∙ ap (λ (b : Bool). cond b None (Some T)) roomy)) below))

  pending_sound : (q : List Invocation) → r.pending ≡ q → r.ended ≡ None → IsSound P input limit (step_pending P limit q r)
  pending_sound [] e none = stopped_sound stop.End e
  pending_sound (v ∷ rest) e none = ran_sound v rest e (outcome P r.store v).ran (outcome P r.store v).touched refl none

  ended_sound : (o : Option Stop) → r.ended ≡ o → IsSound P input limit (step_unless P limit o r)
  ended_sound (Some s) e = sound
  ended_sound None e = pending_sound r.pending refl e

start_sound : (P : TypedProgram) (input : List ℕ) (limit : ℕ) → IsSound P input limit (course_at_start P input)
start_sound P input limit = record {
  replayed = refl;
  within = omega arith;
  once = all_once P (start_store input);
  pending = λ v. all_exact P (start_store input) v ∙ with_none (is_enabled P (start_store input) v);
  failed_once = λ i j d a b. absurd (omega arith);
  stop = tt;
}
  where
    with_none : (b : Bool) → b ≡ (b && not false)
    with_none true = refl
    with_none false = refl

step_sound : (P : TypedProgram) (input : List ℕ) (limit : ℕ) (r : Course) → IsSound P input limit r → IsSound P input limit (serial_step P limit r)
step_sound P input limit r sound = ended_sound P input limit r sound r.ended refl

steps_sound : (P : TypedProgram) (input : List ℕ) (limit : ℕ) (n : ℕ) (r : Course) → IsSound P input limit r → IsSound P input limit (serial_steps P limit n r)
steps_sound P input limit zero r sound = sound
steps_sound P input limit (suc n) r sound = steps_sound P input limit n (serial_step P limit r) (step_sound P input limit r sound)

end_sound : (P : TypedProgram) (input : List ℕ) (limit : ℕ) (from r : Course) (s : Stop) → IsSound P input limit from → EndsAs P limit from r s → IsSound P input limit r
end_sound P input limit from r s sound run = subst (IsSound P input limit) run.reached (steps_sound P input limit run.steps from sound)

pub keeps_sound : KeepsSound
keeps_sound = record { start = start_sound; step = step_sound; end = end_sound }

-- Each event keeps the book sound, and a book that has ended is quiet.
use Rattle.std.proofs.Common.{◌≡◌, ℕ, zero, suc, ◌<◌, ◌≤◌, inl, inr, Bool, true, false, not, cond, ◌&&◌, ◌||◌, ◌==◌, List, [], ◌∷◌, ◌++◌, length, length-append, set, replicate, Option, Some, None, refl, sym, ap, ◌∙◌, subst, arith}
use Rattle.std.specs.Prelude.{All, option_and_then, slice_get}
use Rattle.std.specs.List.{AllByRecursion, find, list_any}
use Rattle.std.specs.Option.{is_some, option_or}
use Rattle.std.specs.Set.{remove_key}
use Rattle.std.proofs.lemmas.Bool.{false≢true, and_parts, cases_Bool, cond_both, eqb-false, eqb-true, false_from_ne_true, not-true, or_cases, or_right}
use Rattle.std.proofs.lemmas.List.Elements.{All-from_recursion, All-push, recursion_from_All}
use Rattle.std.proofs.lemmas.Option.{none-some}
use Rattle.bc_data.specs.Typed.{TypedProgram}
use Rattle.bc_data.specs.WellTyped.{IsWellTyped}
use Rattle.bc_data.specs.declared.run.Changes.{Changes}
use Rattle.bc_data.specs.declared.run.Fault.{Fault}
use Rattle.bc_data.specs.declared.run.FaultKind.{FaultKind}
use Rattle.bc_data.specs.declared.run.Invocation.{Invocation}
use Rattle.bc_data.specs.declared.run.Outcome.{Outcome}
use Rattle.bc_data.specs.declared.run.Place.{Place}
use Rattle.bc_data.specs.declared.run.Ran.TheVariants as ran
use Rattle.bc_data.specs.declared.run.Stop.{Stop}
use Rattle.bc_data.specs.declared.run.Stop.TheVariants as stop
use Rattle.bc_mean.specs.declared.plain.Plain.{Plain}
use Rattle.bc_mean.specs.Changes.{apply_changes, fault_of_room}
use Rattle.bc_mean.specs.Enabled.{all_enabled, is_enabled}
use Rattle.bc_mean.specs.Outcome.{body_outcome, outcome, place_of, refused_room, with_room}
use Rattle.bc_mean.specs.Serial.{Failed, IsFault, after_commit, after_ran, has_failure, is_crowded, listed, replay_from, same_invocation}
use Rattle.bc_mean.specs.Sound.{Commits}
use Rattle.bc_mean.specs.Store.{start_store}
use Rattle.bc_mean.specs.Work.{Look}
use Rattle.bc_mean.proofs.Course.{replay_parts}
use Rattle.bc_mean.proofs.Enabled.{all_ascending, all_exact}
use Rattle.bc_mean.proofs.Lists.{each_weaker}
use Rattle.bc_mean.proofs.Orders.{same_true}
use Rattle.bc_book_events.specs.declared.answers.Begun.{Begun}
use Rattle.bc_book_events.specs.declared.answers.Commit.{Commit}
use Rattle.bc_book_events.specs.declared.answers.Taken.{Taken}
use Rattle.bc_book_events.specs.Book.{BookState, held_by, is_at_rest, is_running}
use Rattle.bc_book_events.specs.Events.{Step, begin, commit, commit_to, commit_unless, commit_unmoved, commit_with_room, fail, fail_unmoved, first_moved, given_up, halt, lose, over, pick, take, take_found, take_unless}
use Rattle.bc_book_events.specs.Exact.{IsExact}
use Rattle.bc_book_events.specs.Named.{IsNamed}
use Rattle.bc_book_events.specs.Sound.{IsSoundBook, StillFails, StopTells}
use Rattle.bc_book_events.specs.SoundLaws.{EndsQuiet, EndsSo, KeepsSoundBook, LeavesFailures, book_at_start}
use Rattle.bc_book_events.specs.Steps.{committed, freed, given, put_back, recorded, stopped}
use Rattle.bc_book_events.proofs.Exact.{back_exact, before_differ, committed_exact, each_itself, freed_exact, given_exact, ready, recorded_exact, stopped_exact}
use Rattle.bc_book_events.proofs.Members.{at_same, found_listed, found_same}
use Rattle.bc_book_events.proofs.Running.{held_here, running_freed, running_given}
use Rattle.bc_book_events.proofs.Named.{enabled_names}
use Rattle.bc_book_events.proofs.Start.{start_is_roomy}

-- a book with the same program, input, limit, store and history
abbrev with_lists : BookState → List Invocation → List (Option Invocation) → List Failed → Option Stop → BookState
with_lists b pending running failures o = record b { pending = pending; running = running; failures = failures; stop = o }

same_sound : (b : BookState) (pending : List Invocation) (running : List (Option Invocation)) (failures : List Failed) (o : Option Stop) →
    IsSoundBook b → IsExact (with_lists b pending running failures o) → ((v : Invocation) → is_running running v ≡ true → IsNamed b.program b.store v) → All (StillFails b.program b.store) failures → StopTells (with_lists b pending running failures o) o → IsSoundBook (with_lists b pending running failures o)
same_sound b pending running failures o sound exact named failing tells = record {
  typed = sound.typed;
  bytes = sound.bytes;
  short = sound.short;
  replayed = sound.replayed;
  roomy = sound.roomy;
  within = sound.within;
  exact = exact;
  named = named;
  failing = failing;
  stop = tells;
}

-- what a stop says stays true, as long as it is not that nothing is left
same_stop : (b : BookState) (pending : List Invocation) (running : List (Option Invocation)) (failures : List Failed) (s o : Option Stop) →
    (o ≡ Some stop.End → is_at_rest (with_lists b pending running failures s) ≡ true) → StopTells b o → StopTells (with_lists b pending running failures s) o
same_stop b pending running failures s None f h = tt
same_stop b pending running failures s (Some stop.End) f h = f refl
same_stop b pending running failures s (Some (stop.Spent v)) f h = h
same_stop b pending running failures s (Some (stop.Crowded v)) f h = h
same_stop b pending running failures s (Some stop.Memory) f h = tt

-- at rest nothing is pending and no worker has anything
none_listed : (ws : List Invocation) (v : Invocation) → (length ws == 0) ≡ true → listed ws v ≡ true → ⊥
none_listed [] v e h = false≢true h
none_listed (w ∷ ws) v e h = let z : length (w ∷ ws) ≡ 0 = eqb-true (length (w ∷ ws)) 0 e in absurd (omega (arith, z))

some_held : (running : List (Option Invocation)) (v : Invocation) → is_running running v ≡ true → list_any is_some running ≡ true
some_held [] v h = absurd (false≢true h)
some_held (None ∷ rest) v h = some_held rest v h
some_held (Some u ∷ rest) v h = refl

rest_parts : (b : BookState) → is_at_rest b ≡ true → ((length b.pending == 0) ≡ true) × (list_any is_some b.running ≡ false)
rest_parts b h = let q = and_parts (length b.pending == 0) (not (list_any is_some b.running)) h in (q.0, not-true (list_any is_some b.running) q.1)

nothing_pending : (b : BookState) (v : Invocation) → is_at_rest b ≡ true → listed b.pending v ≡ true → ⊥
nothing_pending b v h l = none_listed b.pending v (rest_parts b h).0 l

nothing_running : (b : BookState) (v : Invocation) → is_at_rest b ≡ true → is_running b.running v ≡ true → ⊥
nothing_running b v h r = false≢true (sym (rest_parts b h).1 ∙ some_held b.running v r)

ended_rest : (b : BookState) → IsSoundBook b → b.stop ≡ Some stop.End → is_at_rest b ≡ true
ended_rest b sound e = subst (StopTells b) e sound.stop

option_or_some : {A : Type 0} (o : Option A) (x y : A) → o ≡ Some x → option_or o (Some y) ≡ o
option_or_some None x y e = absurd (none-some x e)
option_or_some (Some z) x y e = refl

-- what is pending moves to a worker
given_sound : (b : BookState) (worker : ℕ) (test : Invocation → Bool) (v : Invocation) → IsSoundBook b → held_by b.running worker ≡ None → worker < length b.running → find test b.pending ≡ Some v → IsSoundBook (given worker test v b)
given_sound b worker test v sound free within first =
    same_sound b (remove_key test b.pending) (set b.running worker (Some v)) b.failures b.stop sound (given_exact b worker test v sound.exact free within first)
    (λ w h. elim (or_cases (same_invocation w v) (is_running b.running w) (sym (running_given b.running worker v free within w) ∙ h)) [
      | inl e ↦ at_same (IsNamed b.program b.store) v w e (enabled_names.enabled b.program b.store v sound.typed (ready b sound.exact v (found_listed test b.pending v first)).0)
      | inr e ↦ sound.named w e
    ])
    sound.failing
    (same_stop b (remove_key test b.pending) (set b.running worker (Some v)) b.failures b.stop b.stop (λ e. absurd (nothing_pending b v (ended_rest b sound e) (found_listed test b.pending v first))) sound.stop)

module _ (b : BookState) (worker : ℕ) (allows : Invocation → Bool) (sound : IsSoundBook b) (free : held_by b.running worker ≡ None) (within : worker < length b.running) where
  found_sound : (o : Option Invocation) → find allows b.pending ≡ o → IsSoundBook (take_found worker allows o b).book
  found_sound None e = sound
  found_sound (Some v) e = given_sound b worker allows v sound free within e

  unless_sound : (o : Option Stop) → b.stop ≡ o → IsSoundBook (take_unless o worker allows b).book
  unless_sound (Some s) e = sound
  unless_sound None e =
      cond_both (is_at_rest b) _ _ (λ (r : Step Taken). IsSoundBook r.book)
      (λ rest. same_sound b b.pending b.running b.failures (option_or b.stop (Some stop.End)) sound (stopped_exact b stop.End sound.exact) sound.named sound.failing
      (subst (StopTells (stopped stop.End b)) (sym (ap (λ (o : Option Stop). option_or o (Some stop.End)) e)) rest))
      (λ busy. found_sound (find allows b.pending) refl)

  take_sound : IsSoundBook (take worker allows b).book
  unfolding take
  take_sound = unless_sound b.stop refl

pick_sound : (b : BookState) (worker : ℕ) (v : Invocation) → IsSoundBook b → held_by b.running worker ≡ None → worker < length b.running → IsSoundBook (pick worker v b).book
unfolding pick
pick_sound b worker v sound free within =
    cond_both (listed b.pending v) _ _ (λ (r : Step Bool). IsSoundBook r.book) (λ there. given_sound b worker (same_invocation v) v sound free within (found_same b.pending v there)) (λ _. sound)

-- an invocation leaves its worker
module _ (b : BookState) (worker : ℕ) (v : Invocation) (sound : IsSoundBook b) (held : held_by b.running worker ≡ Some v) where
  not_ended : b.stop ≡ Some stop.End → ⊥
  not_ended e = nothing_running b v (ended_rest b sound e) (held_here b.running worker v held)

  still_named : (w : Invocation) → is_running (set b.running worker None) w ≡ true → IsNamed b.program b.store w
  still_named w h = sound.named w (running_freed b.running worker v held w ∙ or_right (same_invocation w v) (is_running (set b.running worker None) w) h)

  back_sound : IsSoundBook (put_back worker v b)
  back_sound =
      same_sound b (put_back worker v b).pending (set b.running worker None) b.failures b.stop sound (back_exact b worker v sound.exact held) still_named sound.failing
      (same_stop b (put_back worker v b).pending (set b.running worker None) b.failures b.stop b.stop (λ e. absurd (not_ended e)) sound.stop)

  -- with a stop that tells the truth, where none was set
  over_sound : (s : Stop) → StopTells (stopped s (put_back worker v b)) (option_or b.stop (Some s)) → IsSoundBook (over worker v s b).book
  over_sound s tells =
      same_sound b (put_back worker v b).pending (set b.running worker None) b.failures (option_or b.stop (Some s)) sound (stopped_exact (put_back worker v b) s (back_exact b worker v sound.exact held)) still_named sound.failing tells

  freed_sound : is_enabled b.program b.store v ≡ false → IsSoundBook (freed worker b)
  freed_sound stale =
      same_sound b b.pending (set b.running worker None) b.failures b.stop sound (freed_exact b worker v sound.exact held stale) still_named sound.failing
      (same_stop b b.pending (set b.running worker None) b.failures b.stop b.stop (λ e. absurd (not_ended e)) sound.stop)

  begin_sound : IsSoundBook (begin worker v b).book
  unfolding begin
  begin_sound = cond_both (is_enabled b.program b.store v) _ _ (λ (r : Step Begun). IsSoundBook r.book) (λ _. sound) freed_sound

  lose_sound : IsSoundBook (lose worker v b).book
  unfolding lose
  lose_sound = back_sound

  recorded_sound : (f : Failed) → f.v ≡ v → StillFails b.program b.store f → IsSoundBook (recorded worker f b)
  recorded_sound f of stands =
      same_sound b b.pending (set b.running worker None) (b.failures ++ f ∷ []) b.stop sound (recorded_exact b worker v sound.exact held f of) still_named (All-push (StillFails b.program b.store) b.failures f sound.failing stands)
      (same_stop b b.pending (set b.running worker None) (b.failures ++ f ∷ []) b.stop b.stop (λ e. absurd (not_ended e)) sound.stop)

  -- what the invocation comes to in the store, by what its body comes to
  outcome_by : (o : Outcome) → body_outcome b.program b.store v ≡ o → outcome b.program b.store v ≡ with_room b.store (place_of (slice_get b.program.tasks v.task)) o.ran o
  outcome_by o e = ap (λ (o : Outcome). with_room b.store (place_of (slice_get b.program.tasks v.task)) o.ran o) e

  module _ (look : Look) (f : Fault) (touched : List ℕ) (runs : first_moved b.store look touched ≡ None → EndsSo b v (ran.Faulted f) touched) where
    unmoved_fails : (m : Option ℕ) → first_moved b.store look touched ≡ m → IsSoundBook (fail_unmoved m f touched worker v b).book
    unmoved_fails (Some id) e = back_sound
    unmoved_fails None e =
        let r = runs e in
        let o = outcome_by (record { ran = ran.Faulted f; touched = touched }) r.ends in
        recorded_sound (record { v = v; fault = f; touched = touched }) refl (record { enabled = r.enabled; fault = f; faults = ap (λ (o : Outcome). o.ran) o; touched = ap (λ (o : Outcome). o.touched) o; alike = inl refl })

    fail_sound : IsSoundBook (fail look f touched worker v b).book
    unfolding fail
    fail_sound = unmoved_fails (first_moved b.store look touched) refl

  module _ (look : Look) (c : Changes) (touched : List ℕ) (runs : first_moved b.store look touched ≡ None → EndsSo b v (ran.Commit c) touched) (leaves : after_commit b.program b.store v ≡ Some (apply_changes b.store c) → LeavesFailures b (apply_changes b.store c)) where
    abbrev T : Plain
    T = apply_changes b.store c

    -- the place of a fault for want of room
    abbrev at : Place
    at = place_of (slice_get b.program.tasks v.task)

    committed_sound : b.stop ≡ None → Commits b.program b.store v c → length b.history < b.limit → is_crowded b.program T ≡ false → IsSoundBook (committed worker T v b)
    committed_sound none commits below roomy =
        let leads : after_commit b.program b.store v ≡ Some T = ap (λ (x : Bool). cond x (after_ran b.program b.store (outcome b.program b.store v).ran) None) commits.enabled ∙ (ap (after_ran b.program b.store) commits.commit ∙ ap (λ (x : Bool). cond x None (Some T)) roomy) in
        record {
          typed = sound.typed;
          bytes = sound.bytes;
          short = sound.short;
          replayed =
              replay_parts b.program (start_store b.input) b.history (v ∷ [])
              ∙ (ap (option_and_then (λ S. replay_from b.program S (v ∷ []))) sound.replayed ∙ ap (option_and_then (λ S. replay_from b.program S [])) leads);
          roomy = roomy;
          within = omega (arith, below, length-append b.history (v ∷ []));
          exact = committed_exact b worker v sound.exact held T;
          named = λ w h. enabled_names.kept b.program b.store w c (still_named w h);
          failing = leaves leads;
          stop = subst (StopTells (committed worker T v b)) (sym none) tt;
        }

    stop_set : (s : Stop) → b.stop ≡ None → StopTells (stopped s (put_back worker v b)) (Some s) → IsSoundBook (over worker v s b).book
    stop_set s none tells = over_sound s (subst (StopTells (stopped s (put_back worker v b))) (sym (ap (λ (o : Option Stop). option_or o (Some s)) none)) tells)

    commit_to_sound : b.stop ≡ None → Commits b.program b.store v c → IsSoundBook (commit_to T worker v b).book
    commit_to_sound none commits =
        cond_both (length b.history == b.limit) _ _ (λ (r : Step Commit). IsSoundBook r.book)
        (λ e. stop_set (stop.Spent v) none (eqb-true (length b.history) b.limit e, (c, commits)))
        (λ e.
        let ne : length b.history ≡ b.limit → ⊥ = eqb-false (length b.history) b.limit e in
        let within : length b.history ≤ b.limit = sound.within in
        let below : length b.history < b.limit = omega (arith, ne, within) in
        cond_both (is_crowded b.program T) _ _ (λ (r : Step Commit). IsSoundBook r.book)
        (λ crowded. stop_set (stop.Crowded v) none (below, (c, commits, crowded)))
        (λ roomy. committed_sound none commits below roomy))

    with_room_sound : b.stop ≡ None → EndsSo b v (ran.Commit c) touched → (k : Option FaultKind) → fault_of_room b.store c ≡ k → IsSoundBook (commit_with_room k c touched worker v b).book
    with_room_sound none r None e =
        let o = outcome_by (record { ran = ran.Commit c; touched = touched }) r.ends ∙ ap (λ (k : Option FaultKind). refused_room k at (record { ran = ran.Commit c; touched = touched })) e in
        commit_to_sound none (record { enabled = r.enabled; commit = ap (λ (o : Outcome). o.ran) o })
    with_room_sound none r (Some k) e =
        let o = outcome_by (record { ran = ran.Commit c; touched = touched }) r.ends ∙ ap (λ (k : Option FaultKind). refused_room k at (record { ran = ran.Commit c; touched = touched })) e in
        recorded_sound (record { v = v; fault = record { kind = k; at = at }; touched = touched }) refl
        (record { enabled = r.enabled; fault = record { kind = k; at = at }; faults = ap (λ (o : Outcome). o.ran) o; touched = ap (λ (o : Outcome). o.touched) o; alike = inl refl })

    unmoved_sound : b.stop ≡ None → (m : Option ℕ) → first_moved b.store look touched ≡ m → IsSoundBook (commit_unmoved m c touched worker v b).book
    unmoved_sound none (Some id) e = back_sound
    unmoved_sound none None e = with_room_sound none (runs e) (fault_of_room b.store c) refl

    commit_unless_sound : (o : Option Stop) → b.stop ≡ o → IsSoundBook (commit_unless o look c touched worker v b).book
    commit_unless_sound (Some s) e =
        over_sound s (subst (StopTells (stopped s (put_back worker v b))) (sym (option_or_some b.stop s s e)) (same_stop b (put_back worker v b).pending (set b.running worker None) b.failures (option_or b.stop (Some s)) b.stop (λ h. absurd (not_ended h)) sound.stop))
    commit_unless_sound None e = unmoved_sound e (first_moved b.store look touched) refl

    commit_sound : IsSoundBook (commit look c touched worker v b).book
    unfolding commit
    commit_sound = commit_unless_sound b.stop refl

-- want of memory
given_up_sound : (b : BookState) (worker : ℕ) → IsSoundBook b → (o : Option Invocation) → held_by b.running worker ≡ o → IsSoundBook (given_up worker o b)
given_up_sound b worker sound None e = sound
given_up_sound b worker sound (Some v) e = back_sound b worker v sound e

memory_tells : (b : BookState) → IsSoundBook b → (o : Option Stop) → b.stop ≡ o → StopTells (stopped stop.Memory b) (option_or o (Some stop.Memory))
memory_tells b sound None e = tt
memory_tells b sound (Some s) e =
    same_stop b b.pending b.running b.failures (option_or b.stop (Some stop.Memory)) (Some s) (λ h. ended_rest b sound (e ∙ h)) (subst (StopTells b) e sound.stop)

memory_sound : (b : BookState) → IsSoundBook b → IsSoundBook (stopped stop.Memory b)
memory_sound b sound =
    same_sound b b.pending b.running b.failures (option_or b.stop (Some stop.Memory)) sound (stopped_exact b stop.Memory sound.exact) sound.named sound.failing (memory_tells b sound b.stop refl)

halt_sound : (b : BookState) (worker : ℕ) → IsSoundBook b → IsSoundBook (halt worker b)
unfolding halt
halt_sound b worker sound = memory_sound (given_up worker (held_by b.running worker) b) (given_up_sound b worker sound (held_by b.running worker) refl)

-- the start
pub none_held : (workers worker : ℕ) → held_by (replicate workers None) worker ≡ None
none_held zero worker = refl
none_held (suc n) zero = refl
none_held (suc n) (suc k) = none_held n k

none_running : (workers : ℕ) (v : Invocation) → is_running (replicate workers None) v ≡ false
none_running zero v = refl
none_running (suc n) v = none_running n v

start_bools : (e r : Bool) → r ≡ false → e ≡ (e && (not r && not false))
start_bools e r h = grind (arith, h)

start_exact : (P : TypedProgram) (input : List ℕ) (limit workers : ℕ) → IsExact (book_at_start P input limit workers)
start_exact P input limit workers = record {
  once = λ i j d a b. before_differ _ _ (all_ascending P (start_store input) i j d a b);
  pending = λ v. all_exact P (start_store input) v ∙ start_bools (is_enabled P (start_store input) v) (is_running (replicate workers None) v) (none_running workers v);
  alone = λ i j v a b. absurd (none-some v (sym (none_held workers i) ∙ a));
  unfailed = λ v h. refl;
  failed_once = λ i j d a b. absurd (omega arith);
}

start_sound : (P : TypedProgram) (input : List ℕ) (limit workers : ℕ) → IsWellTyped P → All (λ byte. byte < 256) input → length input ≤ 65536 → IsSoundBook (book_at_start P input limit workers)
start_sound P input limit workers typed bytes short = record {
  typed = typed;
  bytes = bytes;
  short = short;
  replayed = refl;
  roomy = start_is_roomy P input typed;
  within = omega arith;
  exact = start_exact P input limit workers;
  named = λ v h. absurd (false≢true (sym (none_running workers v) ∙ h));
  failing = λ k d l. absurd (omega arith);
  stop = tt;
}

pub keeps_sound_book : KeepsSoundBook
keeps_sound_book = record {
  start = start_sound;
  take = take_sound;
  pick = pick_sound;
  begin = begin_sound;
  lose = lose_sound;
  halt = halt_sound;
  fail = λ b look f touched worker v sound held runs. fail_sound b worker v sound held look f touched runs;
  commit = λ b look c touched worker v sound held runs leaves. commit_sound b worker v sound held look c touched runs leaves;
}

-- the end
failure_of : (Q : Failed → Type 0) (fs : List Failed) (v : Invocation) → AllByRecursion Q fs → has_failure fs v ≡ true → (f : Failed) × (f.v ≡ v) × Q f
failure_of Q [] v a h = absurd (false≢true h)
failure_of Q (f ∷ fs) v a h = elim (cases_Bool (same_invocation v f.v)) [
  | inl e ↦ (f, sym (same_true v f.v e), a.0)
  | inr e ↦ failure_of Q fs v a.1 (subst (λ (c : Bool). (c || has_failure fs v) ≡ true) e h)
]

failed_bools : (p e r f : Bool) → p ≡ (e && (not r && not f)) → e ≡ true → p ≡ false → r ≡ false → f ≡ true
failed_bools p e r f x h k l = grind (arith, x, h, k, l)

pub ends_quiet : EndsQuiet
ends_quiet b sound e =
    All-from_recursion Faults (all_enabled b.program b.store)
    (each_weaker (λ v. listed (all_enabled b.program b.store) v ≡ true) Faults
    (λ v there.
    let has : has_failure b.failures v ≡ true =
    failed_bools (listed b.pending v) (is_enabled b.program b.store v) (is_running b.running v) (has_failure b.failures v) (sound.exact.pending v) (sym (all_exact b.program b.store v) ∙ there)
    (false_from_ne_true (listed b.pending v) (nothing_pending b v (ended_rest b sound e))) (false_from_ne_true (is_running b.running v) (nothing_running b v (ended_rest b sound e))) in
    let f = failure_of (StillFails b.program b.store) b.failures v (recursion_from_All (StillFails b.program b.store) b.failures sound.failing) has in
    subst Faults f.1 (subst IsFault (sym f.2.faults) tt))
    (all_enabled b.program b.store) (each_itself (all_enabled b.program b.store)))
  where
    Faults : Invocation → Type 0
    Faults v = IsFault (outcome b.program b.store v).ran

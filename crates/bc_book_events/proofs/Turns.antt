-- Turn by turn a worker that is alone makes the run of one thread.
use Rattle.std.proofs.Common.{◌≡◌, ℕ, zero, suc, Bool, true, false, not, cond, ◌&&◌, ◌==◌, List, [], ◌∷◌, ◌++◌, length, set, replicate, Option, Some, None, refl, sym, ap, ap₂, ◌∙◌, subst, arith}
use Rattle.std.specs.Prelude.{slice_get}
use Rattle.std.specs.List.{find, list_any}
use Rattle.std.specs.Option.{is_some, option_or}
use Rattle.std.specs.Set.{remove_key}
use Rattle.std.proofs.lemmas.Bool.{and_from, eq-eqb, ne_eqb, not_from_false, true≢false}
use Rattle.std.proofs.lemmas.Option.{none-some}
use Rattle.bc_data.specs.Typed.{TypedProgram}
use Rattle.bc_data.specs.declared.run.Changes.{Changes}
use Rattle.bc_data.specs.declared.run.Fault.{Fault}
use Rattle.bc_data.specs.declared.run.FaultKind.{FaultKind}
use Rattle.bc_data.specs.declared.run.Invocation.{Invocation}
use Rattle.bc_data.specs.declared.run.Outcome.{Outcome}
use Rattle.bc_data.specs.declared.run.Place.{Place}
use Rattle.bc_data.specs.declared.run.Ran.{Ran}
use Rattle.bc_data.specs.declared.run.Ran.TheVariants as ran
use Rattle.bc_data.specs.declared.run.Stop.{Stop}
use Rattle.bc_data.specs.declared.run.Stop.TheVariants as stop
use Rattle.bc_mean.specs.declared.plain.Plain.{Plain}
use Rattle.bc_mean.specs.Changes.{apply_changes, changed_objects, fault_of_room}
use Rattle.bc_mean.specs.Outcome.{body_outcome, place_of, refused_room, with_room}
use Rattle.bc_mean.specs.Serial.{Course, Failed, course_at_start, is_crowded, pending_after, serial_step, serial_steps, step_pending, step_ran, step_unless, stopped as ended_by, try_commit}
use Rattle.bc_mean.specs.Work.{look_of}
use Rattle.bc_book_events.specs.declared.answers.Commit.{Commit}
use Rattle.bc_book_events.specs.declared.answers.Failing.{Failing}
use Rattle.bc_book_events.specs.declared.answers.Taken.{Taken}
use Rattle.bc_book_events.specs.declared.answers.Taken.TheVariants as taken
use Rattle.bc_book_events.specs.Book.{BookState, busy, is_at_rest}
use Rattle.bc_book_events.specs.Events.{Step, commit, commit_to, commit_unless, commit_unmoved, commit_with_room, fail, fail_unmoved, take, take_found, take_unless}
use Rattle.bc_book_events.specs.SoundLaws.{book_at_start}
use Rattle.bc_book_events.specs.Steps.{committed, failures_left, given, put_back, recorded, stopped}
use Rattle.bc_book_events.specs.Turns.{IsAt, IsSameRun, TurnsAreSteps, ends, runs_taken, turn, turns}
use Rattle.bc_book_events.proofs.SameRun.{same_commit, same_fail, same_itself, same_take, same_then}
use Rattle.bc_book_events.proofs.Unmoved.{none_moved}

-- any pending one will do
abbrev any : Invocation → Bool
any v = true

-- where no worker has anything
idle_start : (workers : ℕ) → list_any (is_some {T = Invocation}) (replicate workers None) ≡ false
idle_start zero = refl
idle_start (suc n) = idle_start n

idle_again : (running : List (Option Invocation)) (worker : ℕ) (slot : Option Invocation) → list_any is_some running ≡ false → list_any is_some (set (set running worker slot) worker None) ≡ false
idle_again [] worker slot h = refl
idle_again (None ∷ rest) zero slot h = h
idle_again (Some v ∷ rest) zero slot h = absurd (true≢false h)
idle_again (None ∷ rest) (suc n) slot h = idle_again rest n slot h
idle_again (Some v ∷ rest) (suc n) slot h = absurd (true≢false h)

idle_busy : (running : List (Option Invocation)) → list_any is_some running ≡ false → busy running ≡ []
idle_busy [] h = refl
idle_busy (None ∷ rest) h = idle_busy rest h
idle_busy (Some v ∷ rest) h = absurd (true≢false h)

abbrev course_of : BookState → Course
course_of b = record { store = b.store; history = b.history; pending = b.pending; failures = b.failures; ended = b.stop }

-- a turn in which v was the first that is pending
module _ (worker : ℕ) (b : BookState) (none : b.stop ≡ None) (idle : list_any is_some b.running ≡ false) (v : Invocation) (rest : List Invocation) (first : b.pending ≡ v ∷ rest) where
  abbrev taken_book : BookState
  taken_book = given worker any v b

  left_pending : taken_book.pending ≡ rest
  left_pending = ap (remove_key any) first

  idle_others : list_any is_some (set (set b.running worker (Some v)) worker None) ≡ false
  idle_others = idle_again b.running worker (Some v) idle

  recorded_at : (f : Fault) (touched : List ℕ) → IsAt (recorded worker (record { v = v; fault = f; touched = touched }) taken_book) (step_ran b.program b.limit (ran.Faulted f) touched v rest (course_of b))
  recorded_at f touched = record { store = refl; history = refl; failures = refl; stop = refl; pending = λ _. left_pending; idle = idle_others }

  over_at : (s : Stop) → IsAt (stopped s (put_back worker v taken_book)) (ended_by s (course_of b))
  over_at s =
      let set_here : option_or b.stop (Some s) ≡ Some s = ap (λ (o : Option Stop). option_or o (Some s)) none in
      record { store = refl; history = refl; failures = refl; stop = set_here; pending = λ h. absurd (none-some s (sym h ∙ set_here)); idle = idle_others }

  module _ (c : Changes) where
    abbrev T : Plain
    T = apply_changes b.store c

    abbrev left : List Failed
    left = failures_left (changed_objects b.store T) b.failures

    committed_at : IsAt (committed worker T v taken_book) (record { store = T; history = b.history ++ v ∷ []; pending = pending_after b.program T left [] rest; failures = left; ended = None })
    committed_at = record {
      store = refl;
      history = refl;
      failures = refl;
      stop = none;
      pending = λ _. ap₂ (λ (vs : List Invocation) (ws : List Invocation). pending_after b.program T left vs ws) (idle_busy (set (set b.running worker (Some v)) worker None) idle_others) left_pending;
      idle = idle_others;
    }

    by_limits : (x y : Bool) (p q r : Step Commit) (f g h : Course) → IsAt p.book f → IsAt q.book g → IsAt r.book h → IsAt (cond x p (cond y q r)).book (cond x f (cond y g h))
    by_limits true y p q r f g h a b c = a
    by_limits false true p q r f g h a b c = b
    by_limits false false p q r f g h a b c = c

    commit_to_at : IsAt (commit_to T worker v taken_book).book (try_commit b.program b.limit T v rest (course_of b))
    commit_to_at = by_limits (length b.history == b.limit) (is_crowded b.program T) _ _ _ _ _ _ (over_at (stop.Spent v)) (over_at (stop.Crowded v)) committed_at

    abbrev at : Place
    at = place_of (slice_get b.program.tasks v.task)

    -- the outcome, by whether there is room
    abbrev by_room : Option FaultKind → List ℕ → Outcome
    by_room k touched = refused_room k at (record { ran = ran.Commit c; touched = touched })

    with_room_at : (k : Option FaultKind) (touched : List ℕ) → IsAt (commit_with_room k c touched worker v taken_book).book (step_ran b.program b.limit (by_room k touched).ran (by_room k touched).touched v rest (course_of b))
    with_room_at None touched = commit_to_at
    with_room_at (Some k) touched = recorded_at (record { kind = k; at = at }) touched

    commit_is : (touched : List ℕ) → commit (look_of b.store) c touched worker v taken_book ≡ commit_with_room (fault_of_room b.store c) c touched worker v taken_book
    unfolding commit
    commit_is touched =
        ap (λ (o : Option Stop). commit_unless o (look_of b.store) c touched worker v taken_book) none
        ∙ ap (λ (m : Option ℕ). commit_unmoved m c touched worker v taken_book) (none_moved b.store touched)

  fail_is : (f : Fault) (touched : List ℕ) → fail (look_of b.store) f touched worker v taken_book ≡ fail_unmoved None f touched worker v taken_book
  unfolding fail
  fail_is f touched = ap (λ (m : Option ℕ). fail_unmoved m f touched worker v taken_book) (none_moved b.store touched)

  -- the outcome, by how the body ends
  abbrev by_body : Ran → List ℕ → Outcome
  by_body n touched = with_room b.store (place_of (slice_get b.program.tasks v.task)) n (record { ran = n; touched = touched })

  ends_at : (n : Ran) (touched : List ℕ) → IsAt (ends n touched worker v taken_book) (step_ran b.program b.limit (by_body n touched).ran (by_body n touched).touched v rest (course_of b))
  ends_at (ran.Commit c) touched = subst (λ (s : Step Commit). IsAt s.book (step_ran b.program b.limit (by_room c (fault_of_room b.store c) touched).ran (by_room c (fault_of_room b.store c) touched).touched v rest (course_of b))) (sym (commit_is c touched)) (with_room_at c (fault_of_room b.store c) touched)
  ends_at (ran.Faulted f) touched = subst (λ (s : Step Failing). IsAt s.book (step_ran b.program b.limit (ran.Faulted f) touched v rest (course_of b))) (sym (fail_is f touched)) (recorded_at f touched)

module _ (worker : ℕ) (b : BookState) (idle : list_any is_some b.running ≡ false) where
  abbrev At : Step Taken → Course → Type 0
  At s r = IsAt (runs_taken s.answer worker s.book) r

  at_end : b.stop ≡ None → IsAt (stopped stop.End b) (ended_by stop.End (course_of b))
  at_end none =
      let set_here : option_or b.stop (Some stop.End) ≡ Some stop.End = ap (λ (o : Option Stop). option_or o (Some stop.End)) none in
      record { store = refl; history = refl; failures = refl; stop = set_here; pending = λ h. absurd (none-some stop.End (sym h ∙ set_here)); idle = idle }

  pending_at : b.stop ≡ None → (q : List Invocation) → b.pending ≡ q → At (take_unless None worker any b) (step_pending b.program b.limit q (course_of b))
  pending_at none [] e =
      subst (λ (s : Step Taken). At s (ended_by stop.End (course_of b)))
      (sym (ap (λ (c : Bool). cond c (record { answer = taken.Over stop.End; book = stopped stop.End b }) (take_found worker any (find any b.pending) b))
      (and_from (length b.pending == 0) (not (list_any is_some b.running)) (eq-eqb (length b.pending) 0 (ap (λ (l : List Invocation). length l) e)) (not_from_false (list_any is_some b.running) idle))))
      (at_end none)
  pending_at none (v ∷ rest) e =
      subst (λ (s : Step Taken). At s (step_pending b.program b.limit (v ∷ rest) (course_of b)))
      (sym (ap (λ (c : Bool). cond c (record { answer = taken.Over stop.End; book = stopped stop.End b }) (take_found worker any (find any b.pending) b)) not_at_rest
      ∙ ap (λ (l : List Invocation). take_found worker any (find any l) b) e))
      (ends_at worker b none idle v rest e (body_outcome b.program b.store v).ran (body_outcome b.program b.store v).touched)
    where
      not_at_rest : is_at_rest b ≡ false
      not_at_rest = ap (λ (l : List Invocation). (length l == 0) && not (list_any is_some b.running)) e ∙ ap (λ (c : Bool). c && not (list_any is_some b.running)) (ne_eqb (length (v ∷ rest)) 0 (λ h. absurd (omega (arith, h))))

  module _ (r : Course) (here : IsAt b r) where
    is_course : b.stop ≡ None → course_of b ≡ r
    is_course none = λ i. record { store = here.store i; history = here.history i; pending = here.pending none i; failures = here.failures i; ended = here.stop i }

    stop_at : (o : Option Stop) → b.stop ≡ o → At (take_unless o worker any b) (step_unless b.program b.limit o r)
    stop_at (Some s) e = here
    stop_at None e = subst (λ (q : Course). At (take_unless None worker any b) (step_pending b.program b.limit q.pending q)) (is_course e) (pending_at e b.pending refl)

    turn_at : IsAt (turn worker b) (serial_step b.program b.limit r)
    unfolding turn take
    turn_at = subst (λ (o : Option Stop). At (take_unless b.stop worker any b) (step_unless b.program b.limit o r)) here.stop (stop_at b.stop refl)

module _ (worker : ℕ) (b : BookState) where
  same_ends : (n : Ran) (touched : List ℕ) (v : Invocation) → IsSameRun b (ends n touched worker v b)
  same_ends (ran.Commit c) touched v = same_commit worker b (look_of b.store) c touched v
  same_ends (ran.Faulted f) touched v = same_fail worker b (look_of b.store) f touched v

  same_runs : (t : Taken) → IsSameRun b (runs_taken t worker b)
  same_runs (taken.Got v) = same_ends (body_outcome b.program b.store v).ran (body_outcome b.program b.store v).touched v
  same_runs taken.Idle = same_itself b
  same_runs (taken.Over s) = same_itself b

same_turn : (worker : ℕ) (b : BookState) → IsSameRun b (turn worker b)
unfolding turn
same_turn worker b = same_then b (take worker any b).book (turn worker b) (same_take worker b any) (same_runs worker (take worker any b).book (take worker any b).answer)

many_at : (worker n : ℕ) (b : BookState) (r : Course) → IsAt b r → IsAt (turns worker n b) (serial_steps b.program b.limit n r)
many_at worker zero b r here = here
many_at worker (suc n) b r here =
    let same = same_turn worker b in
    subst (λ (P : TypedProgram). IsAt (turns worker n (turn worker b)) (serial_steps P b.limit n (serial_step b.program b.limit r))) same.program
    (subst (λ (limit : ℕ). IsAt (turns worker n (turn worker b)) (serial_steps (turn worker b).program limit n (serial_step b.program b.limit r))) same.limit
    (many_at worker n (turn worker b) (serial_step b.program b.limit r) (turn_at worker b here.idle r here)))

start_at : (P : TypedProgram) (input : List ℕ) (limit workers : ℕ) → IsAt (book_at_start P input limit workers) (course_at_start P input)
start_at P input limit workers = record { store = refl; history = refl; failures = refl; stop = refl; pending = λ _. refl; idle = idle_start workers }

pub turns_are_steps : TurnsAreSteps
turns_are_steps = record {
  start = start_at;
  same = same_turn;
  one = λ worker b r here. turn_at worker b here.idle r here;
  many = many_at;
}

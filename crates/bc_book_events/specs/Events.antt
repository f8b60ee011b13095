-- The events of the book: what each answers, and the book behind it.
use Rattle.std.specs.Prelude.{ℕ, ◌+◌, Bool, true, false, not, if◌then◌else◌, ◌==◌, List, length, Option, Some, None, slice_get}
use Rattle.std.specs.List.{filter_map, find}
use Rattle.bc_data.specs.declared.run.Body.{Body}
use Rattle.bc_data.specs.declared.run.Changes.{Changes}
use Rattle.bc_data.specs.declared.run.Fault.{Fault}
use Rattle.bc_data.specs.declared.run.FaultKind.{FaultKind}
use Rattle.bc_data.specs.declared.run.Invocation.{Invocation}
use Rattle.bc_data.specs.declared.run.Stop.{Stop}
use Rattle.bc_data.specs.declared.run.Stop.TheVariants as stop
use Rattle.bc_mean.specs.declared.plain.Plain.{Plain}
use Rattle.bc_mean.specs.Changes.{apply_changes, fault_of_room, same_body}
use Rattle.bc_mean.specs.Enabled.{is_enabled}
use Rattle.bc_mean.specs.Outcome.{place_of}
use Rattle.bc_mean.specs.Serial.{is_crowded, listed, same_invocation}
use Rattle.bc_mean.specs.Work.{Look}
use Rattle.bc_book_events.specs.declared.answers.Taken.{Taken}
use Rattle.bc_book_events.specs.declared.answers.Taken.TheVariants as taken
use Rattle.bc_book_events.specs.declared.answers.Begun.{Begun}
use Rattle.bc_book_events.specs.declared.answers.Begun.TheVariants as begins
use Rattle.bc_book_events.specs.declared.answers.Commit.{Commit}
use Rattle.bc_book_events.specs.declared.answers.Commit.TheVariants as ends
use Rattle.bc_book_events.specs.declared.answers.Failing.{Failing}
use Rattle.bc_book_events.specs.declared.answers.Failing.TheVariants as fails
use Rattle.bc_book_events.specs.Book.{BookState, held_by, is_at_rest}
use Rattle.bc_book_events.specs.Steps.{committed, freed, given, put_back, recorded, stopped}

-- an event's answer, and the book behind it
pub record Step (A : Type 0) : Type 0 where
  pub answer : A
  pub book : BookState

abbrev pub answers : {A : Type 0} → A → BookState → Step A
answers a b = record { answer = a; book = b }

-- The worker asks for a pending invocation that passes the test.
abbrev pub take_found : ℕ → (Invocation → Bool) → Option Invocation → BookState → Step Taken
take_found worker allows None b = answers taken.Idle b
take_found worker allows (Some v) b = answers (taken.Got v) (given worker allows v b)

abbrev pub take_unless : Option Stop → ℕ → (Invocation → Bool) → BookState → Step Taken
take_unless (Some s) worker allows b = answers (taken.Over s) b
take_unless None worker allows b =
    if is_at_rest b then answers (taken.Over stop.End) (stopped stop.End b) else take_found worker allows (find allows b.pending) b

-- A run that is over stays so, and one with nothing pending or running ends. Else the first that passes is the worker's.
unfoldable pub take : ℕ → (Invocation → Bool) → BookState → Step Taken
take worker allows b = take_unless b.stop worker allows b

-- this very invocation becomes the worker's, if it is pending
unfoldable pub pick : ℕ → Invocation → BookState → Step Bool
pick worker v b = if listed b.pending v then answers true (given worker (same_invocation v) v b) else answers false b

-- From here on v is the worker's invocation. It is enabled, and gets the bodies of its parameters, or the worker has none.
unfoldable pub begin : ℕ → Invocation → BookState → Step Begun
begin worker v b =
    if is_enabled b.program b.store v then answers (begins.Ready (filter_map (slice_get b.store.bodies) v.objects)) b
    else answers begins.Stale (freed worker b)

abbrev pub is_moved : Option Body → Option Body → Bool
is_moved (Some given) (Some own) = not (same_body given own)
is_moved (Some given) None = true
is_moved None own = false

-- the first of these objects whose body is not the one that was given
abbrev pub first_moved : Plain → Look → List ℕ → Option ℕ
first_moved S look objects = find (λ id. is_moved (look id) (slice_get S.bodies id)) objects

-- The run is over: v is back, and this stop is set where none is.
abbrev pub over : ℕ → Invocation → Stop → BookState → Step Commit
over worker v s b = answers (ends.Over s) (stopped s (put_back worker v b))

-- a commit to T, within the limits of commits and of enabled invocations
abbrev pub commit_to : Plain → ℕ → Invocation → BookState → Step Commit
commit_to T worker v b =
    if length b.history == b.limit then over worker v (stop.Spent v) b
    else if is_crowded b.program T then over worker v (stop.Crowded v) b
    else answers (ends.Committed (length b.history + 1)) (committed worker T v b)

abbrev pub commit_with_room : Option FaultKind → Changes → List ℕ → ℕ → Invocation → BookState → Step Commit
commit_with_room None c touched worker v b = commit_to (apply_changes b.store c) worker v b
commit_with_room (Some k) c touched worker v b =
    answers (ends.NoRoom k) (recorded worker (record { v = v; fault = record { kind = k; at = place_of (slice_get b.program.tasks v.task) }; touched = touched }) b)

abbrev pub commit_unmoved : Option ℕ → Changes → List ℕ → ℕ → Invocation → BookState → Step Commit
commit_unmoved (Some id) c touched worker v b = answers (ends.Moved id) (put_back worker v b)
commit_unmoved None c touched worker v b = commit_with_room (fault_of_room b.store c) c touched worker v b

abbrev pub commit_unless : Option Stop → Look → Changes → List ℕ → ℕ → Invocation → BookState → Step Commit
commit_unless (Some s) look c touched worker v b = over worker v s b
commit_unless None look c touched worker v b = commit_unmoved (first_moved b.store look touched) c touched worker v b

-- The worker's invocation exits with these changes, having touched these objects, over the bodies that look knows. In this
-- order: the run is over; a body has moved since; there is no room; no commit is left; too many would be enabled; it
-- commits.
unfoldable pub commit : Look → Changes → List ℕ → ℕ → Invocation → BookState → Step Commit
commit look c touched worker v b = commit_unless b.stop look c touched worker v b

abbrev pub fail_unmoved : Option ℕ → Fault → List ℕ → ℕ → Invocation → BookState → Step Failing
fail_unmoved (Some id) f touched worker v b = answers (fails.Moved id) (put_back worker v b)
fail_unmoved None f touched worker v b = answers fails.Recorded (recorded worker (record { v = v; fault = f; touched = touched }) b)

-- The worker's invocation faults, over the bodies that look knows.
unfoldable pub fail : Look → Fault → List ℕ → ℕ → Invocation → BookState → Step Failing
fail look f touched worker v b = fail_unmoved (first_moved b.store look touched) f touched worker v b

-- The worker gives its invocation up: it is still enabled, and pending again, or dropped.
unfoldable pub lose : ℕ → Invocation → BookState → Step Bool
lose worker v b = answers (is_enabled b.program b.store v) (put_back worker v b)

abbrev pub given_up : ℕ → Option Invocation → BookState → BookState
given_up worker None b = b
given_up worker (Some v) b = put_back worker v b

-- The worker wants memory: it gives up what it has, and the run is over.
unfoldable pub halt : ℕ → BookState → BookState
halt worker b = stopped stop.Memory (given_up worker (held_by b.running worker) b)

-- What a run of one thread comes to.
use Rattle.std.specs.Prelude.{◌≡◌, ◌⊎◌, ℕ, ◌<◌, true, false, List, length, map, All, Option, Some, None, is_some}
use Rattle.std.specs.List.{list_any}
use Rattle.bc_data.specs.Typed.{TypedProgram}
use Rattle.bc_data.specs.declared.run.Changes.{Changes}
use Rattle.bc_data.specs.declared.run.Fault.{Fault}
use Rattle.bc_data.specs.declared.run.Invocation.{Invocation}
use Rattle.bc_data.specs.declared.run.Ran.TheVariants as ran
use Rattle.bc_data.specs.declared.run.Stop.{Stop}
use Rattle.bc_data.specs.declared.run.Stop.TheVariants as stop
use Rattle.bc_mean.specs.declared.plain.Plain.{Plain}
use Rattle.bc_mean.specs.Changes.{apply_changes}
use Rattle.bc_mean.specs.Enabled.{all_enabled}
use Rattle.bc_mean.specs.Outcome.{outcome}
use Rattle.bc_mean.specs.Serial.{Course, IsQuiet, course_at_start, is_crowded, replay, serial_steps}
use Rattle.bc_mean.specs.Sound.{Commits}
use Rattle.bc_data.specs.declared.run.Failure.{Failure}
use Rattle.bc_failed.specs.Ordered.{ordered}
use Rattle.bc_book_events.specs.declared.answers.Taken.TheVariants as taken
use Rattle.bc_book_events.specs.Book.{BookState}
use Rattle.bc_book_events.specs.Events.{answers, take}
use Rattle.bc_book_events.specs.Sound.{LacksRoom}
use Rattle.bc_book_events.specs.Turns.{IsSameRun}

-- the run so far, as the book has it
abbrev pub course_of : BookState → Course
course_of b = record { store = b.store; history = b.history; pending = b.pending; failures = b.failures; ended = b.stop }

-- where it is so many steps later
abbrev pub course_after : BookState → ℕ → Course
course_after b steps = serial_steps b.program b.limit steps (course_of b)

-- how it ended; where it has not ended, memory was wanting
abbrev pub stop_of : Option Stop → Stop
stop_of None = stop.Memory
stop_of (Some s) = s

-- The run of one thread went on from the book b, some steps on, to the book d. There it ended, or memory was wanting, and no
-- worker has anything.
pub record Finishes (b d : BookState) : Type 0 where
  pub steps : ℕ
  pub same : IsSameRun b d
  pub store : d.store ≡ (course_after b steps).store
  pub history : d.history ≡ (course_after b steps).history
  pub failures : d.failures ≡ (course_after b steps).failures
  pub stop : d.stop ≡ Some (stop_of (course_after b steps).ended)
  pub idle : list_any is_some d.running ≡ false

-- Worker 0 has taken an invocation, and that is all.
pub record HasTaken (b d : BookState) : Type 0 where
  pub v : Invocation
  pub took : take 0 (λ v. true) b ≡ answers (taken.Got v) d

-- The enabled invocation faults so; or both its fault and this one are of room, at one place, and the sum of this one has no
-- room in this store either.
pub record IsFaultOf (P : TypedProgram) (S : Plain) (f : Failure) : Type 0 where
  pub fault : Fault
  pub faults : (outcome P S f.v).ran ≡ ran.Faulted fault
  pub alike : (fault ≡ f.fault) ⊎ ((fault.at ≡ f.fault.at) × LacksRoom P S f.v f.fault.kind)

-- Everything that is enabled faults, and these are all of it, in order, each with its fault.
pub record IsEnd (P : TypedProgram) (S : Plain) (failures : List Failure) : Type 0 where
  pub quiet : IsQuiet P S
  pub all : map (λ f. f.v) failures ≡ all_enabled P S
  pub faults : All (IsFaultOf P S) failures

-- What a stop says: all that is enabled faults; or no commit is left for an invocation that would commit; or one is left, but
-- the invocation would leave too many enabled. Want of memory says nothing.
abbrev pub Tells : TypedProgram → ℕ → Plain → List Invocation → List Failure → Stop → Type 0
Tells P limit S history failures stop.End = IsEnd P S failures
Tells P limit S history failures (stop.Spent v) = (length history ≡ limit) × ((c : Changes) × Commits P S v c)
Tells P limit S history failures (stop.Crowded v) =
    (length history < limit) × ((c : Changes) × Commits P S v c × (is_crowded P (apply_changes S c) ≡ true))
Tells P limit S history failures stop.Memory = Unit {0}

-- The run of a program on an input has come to this: the serial run has ended so, or memory was wanting on its way. The history
-- replays to the last store, whose output this is, and the stop tells the truth.
pub record IsRunOf (P : TypedProgram) (input : List ℕ) (limit : ℕ) (history : List Invocation) (s : Stop) (output : List ℕ) (failures : List Failure) : Type 0 where
  pub steps : ℕ
  pub course : Course
  pub reached : serial_steps P limit steps (course_at_start P input) ≡ course
  pub committed : course.history ≡ history
  pub written : course.store.output ≡ output
  pub failed : ordered course.failures ≡ failures
  pub ended : s ≡ stop_of course.ended
  pub replayed : replay P input history ≡ Some course.store
  pub tells : Tells P limit course.store history failures s

-- That serial runs end, as facts that contracts name.
use Rattle.std.specs.Prelude.{◌≢◌, ℕ, ◌<◌, ◌≤◌, List, length, slice_get, All}
use Rattle.bc_data.specs.Typed.{TypedProgram}
use Rattle.bc_data.specs.WellTyped.{IsWellTyped}
use Rattle.bc_data.specs.declared.run.Stop.{Stop}
use Rattle.bc_data.specs.declared.run.Stop.TheVariants as stop
use Rattle.bc_mean.specs.Outcome.{body_run}
use Rattle.bc_mean.specs.Serial.{Course, EndsAs, IsSerialRun, course_at_start, serial_steps}
use Rattle.bc_mean.specs.Sound.{IsSound}
use Rattle.bc_mean.specs.Store.{Fits}
use Rattle.bc_law_soundness.specs.Laws.{IsNotStuck}

-- the run that goes on from this course has an end
pub record HasEnd (P : TypedProgram) (limit : ℕ) (from : Course) : Type 0 where
  pub course : Course
  pub reason : Stop
  pub ends : EndsAs P limit from course reason

-- A run ends from wherever it goes on, if there are no more commits than the limit so far.
abbrev pub RunsEnd : Type 0
RunsEnd = (P : TypedProgram) (limit : ℕ) (from : Course) → length from.history ≤ limit → HasEnd P limit from

-- what a serial run comes to, which isn't want of memory
pub record EndsSound (P : TypedProgram) (input : List ℕ) (limit : ℕ) : Type 0 where
  pub course : Course
  pub reason : Stop
  pub ends : IsSerialRun P input limit course reason
  pub told : reason ≢ stop.Memory
  pub sound : IsSound P input limit course

-- There is a serial run of each program on each input with each limit.
abbrev pub SerialRunsEnd : Type 0
SerialRunsEnd = (P : TypedProgram) (input : List ℕ) (limit : ℕ) → EndsSound P input limit

-- the store fits the program, and no pending invocation is stuck in it
pub record IsUnstuck (P : TypedProgram) (r : Course) : Type 0 where
  pub fits : Fits P r.store
  pub pending : All (λ v. IsNotStuck (body_run P r.store (slice_get P.tasks v.task) v)) r.pending

-- The serial run of a well-typed program runs no invocation that is stuck, on an input that an array can have.
abbrev pub StepsUnstuck : Type 0
StepsUnstuck =
    (P : TypedProgram) (input : List ℕ) (limit steps : ℕ)
    → IsWellTyped P
    → All (λ b. b < 256) input
    → length input ≤ 65536
    → IsUnstuck P (serial_steps P limit steps (course_at_start P input))

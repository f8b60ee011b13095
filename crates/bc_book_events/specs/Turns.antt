-- The run of one worker, as events of the book.
use Rattle.std.specs.Prelude.{◌≡◌, ℕ, zero, suc, true, false, List, length, None, is_some}
use Rattle.std.specs.List.{list_any}
use Rattle.bc_data.specs.Typed.{TypedProgram}
use Rattle.bc_data.specs.declared.run.Invocation.{Invocation}
use Rattle.bc_data.specs.declared.run.Ran.{Ran}
use Rattle.bc_data.specs.declared.run.Ran.TheVariants as ran
use Rattle.bc_mean.specs.Outcome.{body_outcome}
use Rattle.bc_mean.specs.Serial.{Course, course_at_start, serial_step, serial_steps}
use Rattle.bc_mean.specs.Work.{look_of}
use Rattle.bc_book_events.specs.declared.answers.Taken.{Taken}
use Rattle.bc_book_events.specs.declared.answers.Taken.TheVariants as taken
use Rattle.bc_book_events.specs.Book.{BookState}
use Rattle.bc_book_events.specs.Events.{commit, fail, take}
use Rattle.bc_book_events.specs.SoundLaws.{book_at_start}

-- the worker's invocation ends so over the store of the book
abbrev pub ends : Ran → List ℕ → ℕ → Invocation → BookState → BookState
ends (ran.Commit c) touched worker v b = (commit (look_of b.store) c touched worker v b).book
ends (ran.Faulted f) touched worker v b = (fail (look_of b.store) f touched worker v b).book

abbrev pub runs_taken : Taken → ℕ → BookState → BookState
runs_taken (taken.Got v) worker b = ends (body_outcome b.program b.store v).ran (body_outcome b.program b.store v).touched worker v b
runs_taken taken.Idle worker b = b
runs_taken (taken.Over s) worker b = b

-- A turn of a worker that is alone: it takes the first pending invocation, runs it, and commits it or records its failure.
unfoldable pub turn : ℕ → BookState → BookState
turn worker b = runs_taken (take worker (λ v. true) b).answer worker (take worker (λ v. true) b).book

abbrev pub turns : ℕ → ℕ → BookState → BookState
turns worker zero b = b
turns worker (suc n) b = turns worker n (turn worker b)

-- The book is where the run of one thread is, and no worker has anything. Once a stop is set, the pending list plays no part
-- any more.
pub record IsAt (b : BookState) (r : Course) : Type 0 where
  pub store : b.store ≡ r.store
  pub history : b.history ≡ r.history
  pub failures : b.failures ≡ r.failures
  pub stop : b.stop ≡ r.ended
  pub pending : b.stop ≡ None → b.pending ≡ r.pending
  pub idle : list_any is_some b.running ≡ false

-- what no event changes
pub record IsSameRun (b d : BookState) : Type 0 where
  pub program : d.program ≡ b.program
  pub input : d.input ≡ b.input
  pub limit : d.limit ≡ b.limit
  pub workers : length d.running ≡ length b.running

-- Turn by turn a worker that is alone makes the run of one thread.
pub record TurnsAreSteps : Type 0 where
  pub start : (P : TypedProgram) (input : List ℕ) (limit workers : ℕ) → IsAt (book_at_start P input limit workers) (course_at_start P input)
  pub same : (worker : ℕ) (b : BookState) → IsSameRun b (turn worker b)
  pub one :
      (worker : ℕ) (b : BookState) (r : Course)
      → IsAt b r
      → IsAt (turn worker b) (serial_step b.program b.limit r)
  pub many :
      (worker n : ℕ) (b : BookState) (r : Course)
      → IsAt b r
      → IsAt (turns worker n b) (serial_steps b.program b.limit n r)

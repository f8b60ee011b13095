-- What the stop of a run tells, whoever made the run.
use Rattle.std.specs.Prelude.{◌≡◌, ℕ, ◌≤◌, false, List, length, Some, is_some}
use Rattle.std.specs.List.{list_any}
use Rattle.bc_data.specs.Typed.{TypedProgram}
use Rattle.bc_data.specs.declared.run.Invocation.{Invocation}
use Rattle.bc_data.specs.declared.run.Stop.{Stop}
use Rattle.bc_mean.specs.declared.plain.Plain.{Plain}
use Rattle.bc_mean.specs.Serial.{replay}
use Rattle.bc_data.specs.declared.run.Failure.{Failure}
use Rattle.bc_book_events.specs.Book.{BookState}
use Rattle.bc_serial.specs.Run.{Tells}

-- no worker has an invocation
abbrev pub IsIdle : BookState → Type 0
IsIdle b = list_any is_some b.running ≡ false

-- The history replays to the store, within the limit, and the stop tells the truth of that store.
pub record TellsTruth
    (P : TypedProgram) (input : List ℕ) (limit : ℕ) (S : Plain) (history : List Invocation) (failures : List Failure) (s : Stop)
    : Type 0 where
  pub replayed : replay P input history ≡ Some S
  pub within : length history ≤ limit
  pub tells : Tells P limit S history failures s

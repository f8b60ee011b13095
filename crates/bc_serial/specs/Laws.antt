-- What is known of a run that is over, as facts that contracts name.
use Rattle.std.specs.Prelude.{◌≡◌, ℕ, ◌<◌, ◌≤◌, List, Some, All, length}
use Rattle.bc_data.specs.Typed.{TypedProgram}
use Rattle.bc_data.specs.WellTyped.{IsWellTyped}
use Rattle.bc_data.specs.declared.run.Stop.{Stop}
use Rattle.bc_failed.specs.Ordered.{ordered}
use Rattle.bc_book_events.specs.After.{Reached}
use Rattle.bc_book_events.specs.Book.{BookState}
use Rattle.bc_book_events.specs.Core.{Core}
use Rattle.bc_book_events.specs.Sound.{IsSoundBook}
use Rattle.bc_book_events.specs.SoundLaws.{book_at_start}
use Rattle.bc_serial.specs.Run.{Finishes, IsRunOf}
use Rattle.bc_serial.specs.Told.{IsIdle, TellsTruth}

-- Where a run from the start has finished in a sound book, it is the serial run of the program, and the book tells its end.
abbrev pub RunsFromStart : Type 0
RunsFromStart =
    (P : TypedProgram) (input : List ℕ) (limit workers : ℕ) (d : BookState) (s : Stop)
    → Finishes (book_at_start P input limit workers) d
    → IsSoundBook d
    → d.stop ≡ Some s
    → IsRunOf P input limit d.history s d.store.output (ordered d.failures)

-- Where no worker of a sound book has an invocation, its stop tells the truth, whoever made the run.
abbrev pub StopsTell : Type 0
StopsTell =
    (b : BookState) (s : Stop)
    → IsSoundBook b
    → IsIdle b
    → b.stop ≡ Some s
    → TellsTruth b.program b.input b.limit b.store b.history (ordered b.failures) s

-- So it does in each state that the core machine reaches from its start, by whatever lawful events in whatever order.
abbrev pub WorkersTell : Type 0
WorkersTell =
    (P : TypedProgram) (input : List ℕ) (limit workers : ℕ) (core : Core) (s : Stop)
    → IsWellTyped P
    → All (λ byte. byte < 256) input
    → length input ≤ 65536
    → Reached P input limit workers core
    → IsIdle core.book
    → core.book.stop ≡ Some s
    → TellsTruth P input limit core.book.store core.book.history (ordered core.book.failures) s

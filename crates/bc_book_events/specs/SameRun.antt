-- That each event keeps what a run is of, as facts that contracts name.
use Rattle.std.specs.Prelude.{ℕ, Bool, List}
use Rattle.bc_data.specs.Typed.{TypedProgram}
use Rattle.bc_data.specs.declared.run.Changes.{Changes}
use Rattle.bc_data.specs.declared.run.Fault.{Fault}
use Rattle.bc_data.specs.declared.run.Invocation.{Invocation}
use Rattle.bc_mean.specs.Work.{Look}
use Rattle.bc_book_events.specs.After.{Did, Leads, Reached, after}
use Rattle.bc_book_events.specs.Book.{BookState}
use Rattle.bc_book_events.specs.Core.{Core, Event}
use Rattle.bc_book_events.specs.Events.{begin, commit, fail, halt, lose, pick, take}
use Rattle.bc_book_events.specs.SoundLaws.{book_at_start}
use Rattle.bc_book_events.specs.Turns.{IsSameRun}

-- Each event of the book keeps program, input, limit and number of workers, whatever the book, and whoever does it.
pub record EventsKeepRun : Type 0 where
  pub take : (worker : ℕ) (allows : Invocation → Bool) (b : BookState) → IsSameRun b (take worker allows b).book
  pub pick : (worker : ℕ) (v : Invocation) (b : BookState) → IsSameRun b (pick worker v b).book
  pub begin : (worker : ℕ) (v : Invocation) (b : BookState) → IsSameRun b (begin worker v b).book
  pub lose : (worker : ℕ) (v : Invocation) (b : BookState) → IsSameRun b (lose worker v b).book
  pub halt : (worker : ℕ) (b : BookState) → IsSameRun b (halt worker b)
  pub fail :
      (look : Look) (f : Fault) (touched : List ℕ) (worker : ℕ) (v : Invocation) (b : BookState)
      → IsSameRun b (fail look f touched worker v b).book
  pub commit :
      (look : Look) (c : Changes) (touched : List ℕ) (worker : ℕ) (v : Invocation) (b : BookState)
      → IsSameRun b (commit look c touched worker v b).book

-- Each event of the machine keeps them, lawful or not, and so do many. A state that the machine reaches has those of
-- its start.
pub record MachineKeepsRun : Type 0 where
  pub event : (core : Core) (worker : ℕ) (e : Event) → IsSameRun core.book (after core worker e).book
  pub many : (from : Core) (events : List Did) (to : Core) → Leads from events to → IsSameRun from.book to.book
  pub reached :
      (P : TypedProgram) (input : List ℕ) (limit workers : ℕ) (core : Core)
      → Reached P input limit workers core
      → IsSameRun (book_at_start P input limit workers) core.book

-- Being of the same run is reflexive and transitive.
pub record SameRunComposes : Type 0 where
  pub itself : (b : BookState) → IsSameRun b b
  pub onward : (b d e : BookState) → IsSameRun b d → IsSameRun d e → IsSameRun b e

-- What follows from the laws of single runs, as facts that contracts name.
use Rattle.std.specs.Prelude.{◌≡◌, ℕ, ◌<◌, ◌≤◌, List, length, All, Some}
use Rattle.bc_data.specs.Typed.{TypedProgram}
use Rattle.bc_data.specs.WellTyped.{IsWellTyped}
use Rattle.bc_data.specs.declared.run.Changes.{Changes}
use Rattle.bc_data.specs.declared.run.Invocation.{Invocation}
use Rattle.bc_data.specs.declared.run.Ran.TheVariants as ran
use Rattle.bc_mean.specs.declared.plain.Plain.{Plain}
use Rattle.bc_mean.specs.Changes.{apply_changes}
use Rattle.bc_mean.specs.Outcome.{body_outcome}
use Rattle.bc_mean.specs.Serial.{after_commit}
use Rattle.bc_book_events.specs.After.{Reached, after}
use Rattle.bc_book_events.specs.Book.{BookState}
use Rattle.bc_book_events.specs.Core.{Core, Event}
use Rattle.bc_book_events.specs.Lawful.{IsLawful}
use Rattle.bc_book_events.specs.Sound.{IsSoundBook}
use Rattle.bc_book_events.specs.SoundCore.{IsSoundCore}
use Rattle.bc_book_events.specs.SoundLaws.{LeavesFailures}

-- Each lawful event keeps the machine sound, and so does every run of it, for every well-typed program and input of bytes that
-- an array can have, whatever the limit, the number of workers, the events and their order.
pub record CoreIsSound : Type 0 where
  pub event : (core : Core) (worker : ℕ) (e : Event) → IsSoundCore core → IsLawful core worker e → IsSoundCore (after core worker e)
  pub reached :
      (P : TypedProgram) (input : List ℕ) (limit workers : ℕ) (core : Core)
      → IsWellTyped P
      → All (λ byte. byte < 256) input
      → length input ≤ 65536
      → Reached P input limit workers core
      → IsSoundCore core

-- Where a body exits in the store of a sound book, the failures that touched nothing that it changes stand in the store behind
-- these changes, also where that is crowded. So do they behind a commit.
pub record CommitsLeaveFailures : Type 0 where
  pub body :
      (b : BookState) (v : Invocation) (c : Changes)
      → IsSoundBook b
      → (body_outcome b.program b.store v).ran ≡ ran.Commit c
      → LeavesFailures b (apply_changes b.store c)
  pub commit : (b : BookState) (v : Invocation) (T : Plain) → IsSoundBook b → after_commit b.program b.store v ≡ Some T → LeavesFailures b T

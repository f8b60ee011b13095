-- What an area at its end tells a book.
use Rattle.std.specs.Prelude.{◌≡◌, ℕ, Option, Some, None}
use Rattle.bc_data.specs.Typed.{TypedProgram}
use Rattle.bc_data.specs.declared.run.Changes.{Changes}
use Rattle.bc_data.specs.declared.run.Fault.{Fault}
use Rattle.bc_data.specs.declared.run.Ran.TheVariants as ran
use Rattle.bc_mean.specs.declared.plain.Plain.{Plain}
use Rattle.bc_mean.specs.Changes.{changes_between}
use Rattle.bc_mean.specs.Enabled.{IsEnabled}
use Rattle.bc_code.specs.declared.code.Code.{Code}
use Rattle.bc_code.specs.Given.{given_look, ids_of}
use Rattle.bc_step.specs.Area.{AgreesWith, AreaParts, given_of}
use Rattle.bc_step.specs.State.{KeepsGiven}
use Rattle.bc_machine.specs.declared.machine.Machine.{Machine}
use Rattle.bc_machine.specs.Running.{IsAtExit, IsAtFault, IsRunning, work_of}
use Rattle.bc_book_events.specs.Book.{BookState, held_by}
use Rattle.bc_book_events.specs.Events.{commit, fail, first_moved}
use Rattle.bc_book_events.specs.Sound.{IsSoundBook}
use Rattle.bc_book_events.specs.SoundLaws.{EndsSo}

-- The area's invocation was enabled in some store that has the bodies given.
pub record WasEnabled (P : TypedProgram) (a : AreaParts) : Type 0 where
  pub store : Plain
  pub enabled : IsEnabled P store a.invocation
  pub agrees : AgreesWith store (given_of a.held)

-- the first of the bodies given that the store doesn't have
abbrev pub moved_in : Plain → AreaParts → Option ℕ
moved_in S a = first_moved S (given_look (given_of a.held)) (ids_of (given_of a.held))

abbrev pub changes_of : Plain → AreaParts → Changes
changes_of S a = changes_between S (work_of a)

-- the area is that of the worker's invocation in a sound book, and was enabled
pub record IsAreaOf (b : BookState) (worker : ℕ) (a : AreaParts) : Type 0 where
  pub sound : IsSoundBook b
  pub held : held_by b.running worker ≡ Some a.invocation
  pub was : WasEnabled b.program a

-- The area of a machine on its way was enabled, and so it was where the machine has gone on. Where an area is at its end and the
-- book's store has the bodies given, the invocation is enabled in this store and its body ends so there.
pub record LocalEnds : Type 0 where
  pub was : (P : TypedProgram) (S : Plain) (code : Code) (m : Machine) (a : AreaParts) → IsRunning P S code m → KeepsGiven m.area a → WasEnabled P a
  pub exit_agrees : (P : TypedProgram) (S : Plain) (a : AreaParts) → WasEnabled P a → IsAtExit P a → moved_in S a ≡ None → AgreesWith S (given_of a.held)
  pub exit :
      (b : BookState) (worker : ℕ) (a : AreaParts)
      → IsAreaOf b worker a
      → IsAtExit b.program a
      → moved_in b.store a ≡ None
      → EndsSo b a.invocation (ran.Commit (changes_of b.store a)) (ids_of (given_of a.held))
  pub fault :
      (b : BookState) (worker : ℕ) (a : AreaParts) (f : Fault)
      → IsAreaOf b worker a
      → IsAtFault b.program a f
      → moved_in b.store a ≡ None
      → EndsSo b a.invocation (ran.Faulted f) (ids_of (given_of a.held))

-- So whatever has moved meanwhile, the book stays sound where an area at its exit is committed, and where one at its fault is
-- a failure.
pub record AreasKeepSound : Type 0 where
  pub commit :
      (b : BookState) (worker : ℕ) (a : AreaParts)
      → IsAreaOf b worker a
      → IsAtExit b.program a
      → IsSoundBook (commit (given_look (given_of a.held)) (changes_of b.store a) (ids_of (given_of a.held)) worker a.invocation b).book
  pub fail :
      (b : BookState) (worker : ℕ) (a : AreaParts) (f : Fault)
      → IsAreaOf b worker a
      → IsAtFault b.program a f
      → IsSoundBook (fail (given_look (given_of a.held)) f (ids_of (given_of a.held)) worker a.invocation b).book

-- What the end of an area does to a book.
use Rattle.std.specs.Prelude.{◌≡◌, ℕ, ◌+◌, ◌≤◌}
use Rattle.bc_data.specs.declared.run.Fault.{Fault}
use Rattle.bc_code.specs.Given.{given_look, ids_of}
use Rattle.bc_step.specs.Area.{AreaParts, emptied, given_of, room_of}
use Rattle.bc_book_events.specs.declared.answers.Commit.{Commit}
use Rattle.bc_book_events.specs.declared.answers.Commit.TheVariants as ends
use Rattle.bc_book_events.specs.declared.answers.Failing.{Failing}
use Rattle.bc_book_events.specs.Book.{BookState}
use Rattle.bc_book_events.specs.Events.{Step, commit, fail}
use Rattle.bc_law_core.specs.Areas.{changes_of}

-- the event of a fault, over the bodies that the area was given
abbrev pub fails : Fault → ℕ → AreaParts → BookState → Step Failing
fails f worker a b = fail (given_look (given_of a.held)) f (ids_of (given_of a.held)) worker a.invocation b

-- the event of an exit, over these bodies, with what the area changes in the store
abbrev pub commits : ℕ → AreaParts → BookState → Step Commit
commits worker a b = commit (given_look (given_of a.held)) (changes_of b.store a) (ids_of (given_of a.held)) worker a.invocation b

-- A committed area is empty, with the room of what it was given; any other is as it was.
abbrev pub AreaAfter : Commit → AreaParts → AreaParts → Type 0
AreaAfter (ends.Committed n) old new = (new ≡ emptied old new.spare) × (room_of old ≤ new.spare)
AreaAfter _ old new = new ≡ old

-- A commit that happened has tested so many guards at most.
abbrev pub TestsAtMost : ℕ → ℕ → ℕ → Commit → Type 0
TestsAtMost most old new (ends.Committed n) = new ≤ old + most
TestsAtMost most old new _ = Unit {0}

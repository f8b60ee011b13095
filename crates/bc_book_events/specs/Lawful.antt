-- When a worker may do something.
use Rattle.std.specs.Prelude.{◌≡◌, ◌≢◌, ℕ, ◌<◌, Bool, true, false, List, length, slice_get, All, IsSome, Option, Some, None}
use Rattle.bc_data.specs.Typed.{TypedProgram}
use Rattle.bc_data.specs.declared.run.Invocation.{Invocation}
use Rattle.bc_data.specs.declared.run.Ran.{Ran}
use Rattle.bc_data.specs.declared.run.Ran.TheVariants as ran
use Rattle.bc_mean.specs.declared.plain.Plain.{Plain}
use Rattle.bc_mean.specs.Outcome.{body_outcome}
use Rattle.bc_mean.specs.Store.{Fits}
use Rattle.bc_book_events.specs.Book.{BookState}
use Rattle.bc_book_events.specs.Core.{Core, Event, Take, Claim, Begin, Fetch, Commit, Fail, Lose, Halt, Release, Fetched, Part, look_in}

-- the bodies fetched are those of this store
abbrev pub AgreesWith : List Fetched → Plain → Type 0
AgreesWith fetched T = All (λ f. slice_get T.bodies f.id ≡ Some f.body) fetched

-- A run over the fetched bodies is complete: it touches fetched objects alone, and in every store that fits and agrees
-- with them it ends so.
pub record IsComplete (P : TypedProgram) (v : Invocation) (fetched : List Fetched) (r : Ran) (touched : List ℕ) : Type 0 where
  pub known : All (λ id. IsSome (look_in fetched id)) touched
  pub ends : (T : Plain) → Fits P T → AgreesWith fetched T → body_outcome P T v ≡ record { ran = r; touched = touched }

abbrev pub Owns : (ℕ → Option ℕ) → ℕ → ℕ → Type 0
Owns owner worker id = owner id ≡ Some worker

-- the worker has an invocation, which is begun or not
pub record Has (p : Part) (is_begun : Bool) : Type 0 where
  pub invocation : Invocation
  pub has : p.invocation ≡ Some invocation
  pub begun : p.begun ≡ is_begun

-- the worker owns the objects of its parameters, and its invocation is not begun
pub record CanBegin (owner : ℕ → Option ℕ) (worker : ℕ) (p : Part) : Type 0 where
  pub waits : Has p false
  pub owns : All (Owns owner worker) waits.invocation.objects

-- the worker's invocation has run to this end
pub record CanEnd (b : BookState) (p : Part) (r : Ran) (touched : List ℕ) : Type 0 where
  pub runs : Has p true
  pub complete : IsComplete b.program runs.invocation p.fetched r touched

-- When a worker may do something, by the book, the owners and its own part.
abbrev pub Guard : BookState → (ℕ → Option ℕ) → ℕ → Part → Event → Type 0
Guard b owner worker p (Take allows) = (p.invocation ≡ None) × ((id : ℕ) → owner id ≢ Some worker)
Guard b owner worker p (Claim id) = IsSome p.invocation × (id < length b.store.bodies) × (owner id ≢ Some worker)
Guard b owner worker p Begin = CanBegin owner worker p
Guard b owner worker p (Fetch id) = Has p true × Owns owner worker id × (look_in p.fetched id ≡ None)
Guard b owner worker p (Commit c touched) = CanEnd b p (ran.Commit c) touched
Guard b owner worker p (Fail f touched) = CanEnd b p (ran.Faulted f) touched
Guard b owner worker p Lose = IsSome p.invocation
Guard b owner worker p Halt = Unit {0}
Guard b owner worker p (Release id) = Owns owner worker id × (p.invocation ≡ None)

-- the worker is one of the book's, and may do this now
abbrev pub IsLawful : Core → ℕ → Event → Type 0
IsLawful core worker e = (worker < length core.book.running) × Guard core.book core.owner worker (core.parts worker) e

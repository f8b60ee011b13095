-- What holds of the machine in each state that it reaches.
use Rattle.std.specs.Prelude.{◌≡◌, ℕ, ◌<◌, ◌≤◌, true, List, length, slice_get, All, IsSome, Option, Some, None}
use Rattle.bc_data.specs.Typed.{TypedProgram}
use Rattle.bc_data.specs.WellTyped.{IsWellTyped}
use Rattle.bc_data.specs.declared.run.Changes.{Changes}
use Rattle.bc_data.specs.declared.run.Invocation.{Invocation}
use Rattle.bc_data.specs.declared.run.Ran.TheVariants as ran
use Rattle.bc_mean.specs.declared.plain.Plain.{Plain}
use Rattle.bc_mean.specs.Changes.{changed_objects}
use Rattle.bc_mean.specs.Enabled.{IsEnabled}
use Rattle.bc_mean.specs.Outcome.{body_outcome}
use Rattle.bc_mean.specs.Serial.{Failed, after_commit, is_untouched, replay}
use Rattle.bc_mean.specs.Store.{Fits}
use Rattle.bc_book_events.specs.After.{Reached, after}
use Rattle.bc_book_events.specs.Book.{BookState, held_by}
use Rattle.bc_book_events.specs.Core.{Core, Event, Fetched, Part, look_in, no_part}
use Rattle.bc_book_events.specs.Lawful.{IsLawful, Owns}
use Rattle.bc_book_events.specs.Reshaped.{has}
use Rattle.bc_book_events.specs.Sound.{IsSoundBook, StillFails}

-- a begun invocation is enabled, and the bodies of its parameters are fetched
abbrev pub IsReady : TypedProgram → Plain → Part → Type 0
IsReady P S p = p.begun ≡ true → (v : Invocation) × (p.invocation ≡ Some v) × IsEnabled P S v × All (λ id. IsSome (look_in p.fetched id)) v.objects

-- The worker has the invocation that the book says, and nothing else where that is none. It owns the objects that it
-- fetched, and their bodies are those of the store.
pub record IsSoundPart (b : BookState) (owner : ℕ → Option ℕ) (worker : ℕ) (p : Part) : Type 0 where
  pub held : p.invocation ≡ held_by b.running worker
  pub idle : p.invocation ≡ None → p ≡ no_part
  pub fetched : All (λ (f : Fetched). Owns owner worker f.id × (slice_get b.store.bodies f.id ≡ Some f.body)) p.fetched
  pub ready : IsReady b.program b.store p

-- The book is sound, objects that are owned are there, and each worker's part is sound.
pub record IsSoundCore (core : Core) : Type 0 where
  pub book : IsSoundBook core.book
  pub owned : (worker id : ℕ) → Owns core.owner worker id → id < length core.book.store.bodies
  pub parts : (worker : ℕ) → IsSoundPart core.book core.owner worker (core.parts worker)

-- What is known of single runs of an accepted program: a history leads to a store that fits, an exit writes objects that it
-- touched, and a failure stands where a commit changes nothing that it touched.
pub record RunLaws : Type 0 where
  pub fits :
      (P : TypedProgram) (input : List ℕ) (history : List Invocation) (S : Plain)
      → IsWellTyped P
      → All (λ byte. byte < 256) input
      → length input ≤ 65536
      → replay P input history ≡ Some S
      → Fits P S
  pub touched :
      (P : TypedProgram) (S : Plain) (v : Invocation) (c : Changes)
      → (body_outcome P S v).ran ≡ ran.Commit c
      → All (λ u. has (body_outcome P S v).touched u.id ≡ true) c.bodies
  pub stand :
      (P : TypedProgram) (S T : Plain) (v : Invocation) (f : Failed)
      → IsWellTyped P
      → Fits P S
      → StillFails P S f
      → after_commit P S v ≡ Some T
      → is_untouched (changed_objects S T) f ≡ true
      → StillFails P T f

-- By the laws of single runs each lawful event keeps the machine sound, and so does every run of it, whatever its events
-- and their order.
pub record KeepsSoundCore : Type 0 where
  pub event : (core : Core) (worker : ℕ) (e : Event) → RunLaws → IsSoundCore core → IsLawful core worker e → IsSoundCore (after core worker e)
  pub reached :
      (P : TypedProgram) (input : List ℕ) (limit workers : ℕ) (core : Core)
      → RunLaws
      → IsWellTyped P
      → All (λ byte. byte < 256) input
      → length input ≤ 65536
      → Reached P input limit workers core
      → IsSoundCore core

-- The whole machine: the book, who owns which object, each worker's own part, and what a worker does.
use Rattle.std.specs.Prelude.{ℕ, Bool, false, if◌then◌else◌, ◌==◌, List, [], ◌∷◌, Option, Some, None}
use Rattle.bc_data.specs.declared.run.Body.{Body}
use Rattle.bc_data.specs.declared.run.Changes.{Changes}
use Rattle.bc_data.specs.declared.run.Fault.{Fault}
use Rattle.bc_data.specs.declared.run.Invocation.{Invocation}
use Rattle.bc_mean.specs.Work.{Look}
use Rattle.bc_book_events.specs.Book.{BookState}

-- an object, and the body that it had when it was fetched
pub record Fetched : Type 0 where
  pub id : ℕ
  pub body : Body

-- What is a worker's own: its invocation, whether that is begun, and the bodies that it fetched.
pub record Part : Type 0 where
  pub invocation : Option Invocation
  pub begun : Bool
  pub fetched : List Fetched

abbrev pub no_part : Part
no_part = record { invocation = None; begun = false; fetched = [] }

-- each object has at most one owner
pub record Core : Type 0 where
  pub book : BookState
  pub owner : ℕ → Option ℕ
  pub parts : ℕ → Part

-- What a worker does. A take allows the tasks that pass its test. An exit or a fault comes with what the run changes or its
-- fault, and what it touched.
pub data Event : Type 0 where
  Take : (allows : Invocation → Bool) → Event
  Claim : (id : ℕ) → Event
  Begin : Event
  Fetch : (id : ℕ) → Event
  Commit : (c : Changes) (touched : List ℕ) → Event
  Fail : (f : Fault) (touched : List ℕ) → Event
  Lose : Event
  Halt : Event
  Release : (id : ℕ) → Event

-- the body that was fetched of an object
abbrev pub look_in : List Fetched → Look
look_in [] id = None
look_in (f ∷ fs) id = if f.id == id then Some f.body else look_in fs id

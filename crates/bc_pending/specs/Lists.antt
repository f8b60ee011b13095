-- The pending list as contracts see it.
use Rattle.std.specs.Prelude.{◌≡◌, ℕ, Bool, true, false, not, ◌&&◌, ◌||◌, ◌==◌, ◌<◌, ◌≤◌, nat_lt, List, Option, Some, None, All, slice_index_or, slice_set}
use Rattle.std.specs.List.{find, list_any}
use Rattle.std.specs.Set.{remove_key}
use Rattle.bc_data.specs.declared.run.Invocation.{Invocation}
use Rattle.bc_mean.specs.Enabled.{are_different, is_some_and}
use Rattle.bc_mean.specs.Serial.{same_invocation}

-- The invocations in order, for each worker the one that it holds or none, and for how many more there is room.
pub record Lists : Type 0 where
  pub listed : List Invocation
  pub held : List (Option Invocation)
  pub spare : ℕ

-- the one that a worker holds
abbrev pub held_by : List (Option Invocation) → ℕ → Option Invocation
held_by held worker = slice_index_or held worker None

-- whether some worker holds it
abbrev pub is_held : List (Option Invocation) → Invocation → Bool
is_held held v = list_any (λ slot. is_some_and slot (same_invocation v)) held

-- a task of the set, whose tasks are below 256
abbrev pub is_allowed : List Bool → Invocation → Bool
is_allowed tasks v = nat_lt v.task 256 && slice_index_or tasks v.task false

abbrev pub names : ℕ → Invocation → Bool
names id v = list_any (λ other. other == id) v.objects

-- one that does not name the object, or that the test keeps
abbrev pub stays : ℕ → (Invocation → Bool) → Invocation → Bool
stays id keeps v = not (names id v) || keeps v

-- The first listed one that passes the test is v. It moves to the worker, and the others keep their order.
pub record Moves (test : Invocation → Bool) (worker : ℕ) (v : Invocation) (old new : Lists) : Type 0 where
  pub first : find test old.listed ≡ Some v
  pub listed : new.listed ≡ remove_key test old.listed
  pub held : new.held ≡ slice_set old.held worker (Some v)
  pub spare : old.spare ≤ new.spare

-- different objects, whose numbers are below 65,536
pub record HasObjects (v : Invocation) : Type 0 where
  pub different : are_different v.objects ≡ true
  pub below : All (λ id. id < 65536) v.objects

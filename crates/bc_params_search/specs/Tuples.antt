-- Invocations that name an object, and what a search for them needs of the tasks.
use Rattle.std.specs.Prelude.{◌≡◌, ℕ, ◌<◌, ◌≤◌, Bool, true, ◌&&◌, ◌==◌, List, length, All}
use Rattle.std.specs.List.{list_any}
use Rattle.bc_data.specs.declared.run.Invocation.{Invocation}
use Rattle.bc_mean.specs.Orders.{IsAscending}
use Rattle.bc_mean.specs.Serial.{listed}
use Rattle.bc_params_sets.specs.declared.place.TaskSets.{TaskSets}
use Rattle.bc_params_sets.specs.Members.{has}
use Rattle.bc_params_sets.specs.Kept.{Kept, is_enabled_by}

abbrev pub names : ℕ → Invocation → Bool
names id v = list_any (λ other. other == id) v.objects

-- the limits of a task
pub record IsSmall (t : TaskSets) : Type 0 where
  pub places : length t.places ≤ 4
  pub variables : length t.variables ≤ 4

pub record AreFew (ts : List TaskSets) : Type 0 where
  pub tasks : length ts ≤ 256
  pub each : All IsSmall ts

-- some place binds each variable
abbrev pub IsBound : TaskSets → Type 0
IsBound t = (b : ℕ) → b < length t.variables → list_any (λ q. has q.binds b) t.places ≡ true

-- the enabled invocations that name the object, ascending
pub record AreTuples (k : Kept) (id : ℕ) (all : List Invocation) : Type 0 where
  pub ascending : IsAscending all
  pub members : (v : Invocation) → listed all v ≡ (is_enabled_by k v && names id v)

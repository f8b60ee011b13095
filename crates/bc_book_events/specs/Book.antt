-- The state that workers share.
use Rattle.std.specs.Prelude.{ℕ, Bool, not, ◌&&◌, ◌==◌, List, length, Option, None, is_some, slice_index_or}
use Rattle.std.specs.List.{filter_map, list_any}
use Rattle.bc_data.specs.Typed.{TypedProgram}
use Rattle.bc_data.specs.declared.run.Invocation.{Invocation}
use Rattle.bc_data.specs.declared.run.Stop.{Stop}
use Rattle.bc_mean.specs.declared.plain.Plain.{Plain}
use Rattle.bc_mean.specs.Enabled.{is_some_and}
use Rattle.bc_mean.specs.Serial.{Failed, same_invocation}

-- `running` has, for each worker, the invocation that it has or none.
pub record BookState : Type 0 where
  pub program : TypedProgram
  pub input : List ℕ
  pub limit : ℕ
  pub store : Plain
  pub history : List Invocation
  pub pending : List Invocation
  pub running : List (Option Invocation)
  pub failures : List Failed
  pub stop : Option Stop

-- the invocation that a worker has
abbrev pub held_by : List (Option Invocation) → ℕ → Option Invocation
held_by running worker = slice_index_or running worker None

-- some worker has it
abbrev pub is_running : List (Option Invocation) → Invocation → Bool
is_running running v = list_any (λ slot. is_some_and slot (same_invocation v)) running

-- the invocations that workers have
abbrev pub busy : List (Option Invocation) → List Invocation
busy running = filter_map (λ slot. slot) running

-- nothing is pending, and nothing is running
abbrev pub is_at_rest : BookState → Bool
is_at_rest b = (length b.pending == 0) && not (list_any is_some b.running)

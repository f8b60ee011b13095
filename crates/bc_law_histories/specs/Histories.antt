-- The stores before the entries of a history, and bodies of different times.
use Rattle.std.specs.Prelude.{◌≡◌, ℕ, List, ◌++◌, length, slice_get, Some}
use Rattle.bc_data.specs.Typed.{TypedProgram}
use Rattle.bc_data.specs.declared.run.Body.{Body}
use Rattle.bc_data.specs.declared.run.Invocation.{Invocation}
use Rattle.bc_mean.specs.declared.plain.Plain.{Plain}
use Rattle.bc_mean.specs.Enabled.{IsEnabled}
use Rattle.bc_mean.specs.Outcome.{body_run}
use Rattle.bc_mean.specs.Serial.{replay}
use Rattle.bc_mean.specs.Store.{Fits}
use Rattle.bc_law_soundness.specs.Laws.{IsNotStuck}

-- The history leads to a store that fits, where the invocation is enabled and its task's body is not stuck.
pub record RunsBehind (P : TypedProgram) (input : List ℕ) (history : List Invocation) (v : Invocation) : Type 0 where
  pub store : Plain
  pub replayed : replay P input history ≡ Some store
  pub fits : Fits P store
  pub enabled : IsEnabled P store v
  pub run : IsNotStuck (body_run P store (slice_get P.tasks v.task) v)

-- the object has this body behind some front part of the history
pub record HadBody (P : TypedProgram) (input : List ℕ) (history : List Invocation) (id : ℕ) (b : Body) : Type 0 where
  pub front : List Invocation
  pub back : List Invocation
  pub parts : history ≡ front ++ back
  pub store : Plain
  pub replayed : replay P input front ≡ Some store
  pub body : slice_get store.bodies id ≡ Some b

-- one body for each object of the store, each of a time of its own
pub record AreOfTimes (P : TypedProgram) (input : List ℕ) (history : List Invocation) (S : Plain) (bodies : List Body) : Type 0 where
  pub size : length bodies ≡ length S.bodies
  pub each : (id : ℕ) (b : Body) → slice_get bodies id ≡ Some b → HadBody P input history id b

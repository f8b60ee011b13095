-- What stays true of an invocation that was enabled.
use Rattle.std.specs.Prelude.{◌≡◌, ℕ, ◌<◌, true, length, slice_get, All, Some}
use Rattle.bc_data.specs.Typed.{TypedProgram, TypedTask}
use Rattle.bc_data.specs.declared.run.Invocation.{Invocation}
use Rattle.bc_mean.specs.declared.plain.Plain.{Plain}
use Rattle.bc_mean.specs.Enabled.{are_different}

-- The invocation names different objects that are there, one for each parameter of its task, and for each tag variable an
-- instance of the variable's type.
pub record IsNamed (P : TypedProgram) (S : Plain) (v : Invocation) : Type 0 where
  pub task : TypedTask
  pub here : slice_get P.tasks v.task ≡ Some task
  pub params : length v.objects ≡ length task.params
  pub objects : All (λ id. id < length S.bodies) v.objects
  pub different : are_different v.objects ≡ true
  pub variables : length v.tags ≡ length task.variables
  pub types : (k n type : ℕ) → slice_get v.tags k ≡ Some n → slice_get task.variables k ≡ Some type → slice_get S.tags n ≡ Some type

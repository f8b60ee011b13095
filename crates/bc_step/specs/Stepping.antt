-- When an invocation may begin, and when an instruction of it may be done.
use Rattle.std.specs.Prelude.{◌≡◌, ℕ, List, [], None, Some, slice_get}
use Rattle.bc_data.specs.Typed.{TypedProgram, TypedTask}
use Rattle.bc_data.specs.WellTyped.{IsWellTyped}
use Rattle.bc_data.specs.declared.run.Body.{Body}
use Rattle.bc_data.specs.declared.run.Invocation.{Invocation}
use Rattle.bc_data.specs.declared.run.Written.{Written}
use Rattle.bc_code.specs.declared.code.Code.{Code}
use Rattle.bc_code.specs.Instructions.{On, more, start, step}
use Rattle.bc_code.specs.Translation.{Translates}
use Rattle.bc_step.specs.declared.state.State.{State}
use Rattle.bc_step.specs.Area.{AreaParts, AreCopies, IsFresh, reads_of}
use Rattle.bc_step.specs.State.{HasRule, state_with}

-- The code is that of a well-typed program.
pub record IsGenerated (code : Code) : Type 0 where
  pub program : TypedProgram
  pub well_typed : IsWellTyped program
  pub translated : Translates program code

-- The code is generated, and the invocation is of a task of its program.
pub record CanBegin (code : Code) (v : Invocation) : Type 0 where
  pub generated : IsGenerated code
  pub task : TypedTask
  pub there : slice_get generated.program.tasks v.task ≡ Some task

-- The state is that before the first instruction of the invocation, beside any area before it.
abbrev pub StandsAtStart : Code → Invocation → State → Type 0
StandsAtStart code v s =
    (a : AreaParts) (bodies : List Body) → IsFresh v bodies a → start code v ≡ On (state_with s a [] v.objects)

-- The code is generated, and has brought the area's invocation from its start to this state and area. The area has no
-- end yet, and the next instruction has a rule.
pub record CanStep (code : Code) (s : State) (a : AreaParts) : Type 0 where
  pub generated : IsGenerated code
  pub going_on : a.end ≡ None
  pub copies : List Written
  pub touched : List ℕ
  pub are : AreCopies copies a.held
  pub steps : ℕ
  pub reached : more (reads_of a) code steps (start code a.invocation) ≡ On (state_with s a copies touched)
  pub rule : HasRule (step (reads_of a) code (state_with s a copies touched))

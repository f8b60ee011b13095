-- The code of one expression comes to what the meaning gives for it, in the state of any caller.
use Rattle.std.specs.Prelude.{◌≡◌, ◌≤◌, ℕ, ◌+◌, ◌-◌, ◌*◌, List, ◌∷◌, length, Option, Some, slice_get}
use Rattle.bc_data.specs.Typed.{TypedExpression, TypedProgram}
use Rattle.bc_data.specs.TypedBodies.{Assigned, HasType, IsPerformed}
use Rattle.bc_data.specs.WellTyped.{IsWellTyped}
use Rattle.bc_data.specs.declared.program.Shape.{Shape}
use Rattle.bc_data.specs.declared.run.Value.{Value}
use Rattle.bc_mean.specs.Evaluate.{Calls, World, evaluate}
use Rattle.bc_mean.specs.Execute.{calls, perform}
use Rattle.bc_mean.specs.Work.{Work, Got}
use Rattle.bc_code.specs.declared.code.Code.{Code}
use Rattle.bc_code.specs.declared.code.Unit.{Unit as CodeUnit}
use Rattle.bc_code.specs.Instructions.{Did, On, Reads, State, goes, more}
use Rattle.bc_code.specs.Runs.{IsRight}
use Rattle.bc_code.specs.Translation.{HasExpression, Translates, after, most_instructions, text_of}

-- The next instructions are the code of the expression, in any unit, with any calls around it and any values on the
-- stack.
pub record StandsBefore (P : TypedProgram) (code : Code) (s : State) (e : TypedExpression) : Type 0 where
  pub unit : CodeUnit
  pub there : slice_get code.units s.current.unit ≡ Some unit
  pub has : HasExpression P.classes (text_of unit) s.current.next e

-- the program's meaning over what the machine reads
abbrev pub world_of : TypedProgram → Reads → World
world_of P R = record { look = R.look; classes = P.classes; objects = R.objects }

-- what calls made in this state do, within the calls around it, where at most so many turns are left
abbrev pub calls_in : TypedProgram → Reads → ℕ → State → Calls
calls_in P R turns s = calls (world_of P R) turns (length s.callers)

-- what the meaning gives for the expression with the slots, the tag variables and the work of this state
abbrev pub value_in : TypedProgram → Reads → ℕ → State → TypedExpression → Got Value
value_in P R turns s e = evaluate (world_of P R) (calls_in P R turns s) s.current.frame e s.work

-- and for a call whose result, if there is one, isn't asked for
abbrev pub effect_in : TypedProgram → Reads → ℕ → State → TypedExpression → Got (Option Value)
effect_in P R turns s e = perform (world_of P R) (calls_in P R turns s) s.current.frame e s.work

-- the same call goes on behind the expression's code, with this stack and work
abbrev pub past_expression : TypedProgram → TypedExpression → State → List Value → Work → Did
past_expression P e s stack w =
    let next = after P.classes s.current.next e in
    On (record s { current = record s.current { next = next }; stack = stack; work = w })

-- its value is on top of the stack then
abbrev pub with_value : TypedProgram → TypedExpression → State → Value → Work → Did
with_value P e s x w = past_expression P e s (x ∷ s.stack) w

-- the instructions of the expression once, and those of a unit for each turn that is left
abbrev pub most_steps_from : TypedProgram → State → TypedExpression → ℕ
most_steps_from P s e = (after P.classes s.current.next e - s.current.next) + most_instructions * s.work.turns

-- From before the code of an expression the machine comes behind it, with the value and the work that the meaning
-- gives, or it is over with the fault or the missing body that the meaning gives.
abbrev pub ExpressionRuns : Type 0
ExpressionRuns =
    (P : TypedProgram) (code : Code) (R : Reads) (turns : ℕ) (s : State) (set : Assigned) (e : TypedExpression)
    (sh : Shape)
    → IsWellTyped P → Translates P code → HasType P.classes set e sh → StandsBefore P code s e
    → IsRight (value_in P R turns s e)
    → (n : ℕ)
    × (more R code n (On s) ≡ goes (value_in P R turns s e) (with_value P e s))
    × (n ≤ most_steps_from P s e)

-- A call of a method without a result leaves nothing on the stack.
abbrev pub CallRuns : Type 0
CallRuns =
    (P : TypedProgram) (code : Code) (R : Reads) (turns : ℕ) (s : State) (set : Assigned) (e : TypedExpression)
    → IsWellTyped P → Translates P code → IsPerformed P.classes set e → StandsBefore P code s e
    → IsRight (effect_in P R turns s e)
    → (n : ℕ)
    × (more R code n (On s) ≡ goes (effect_in P R turns s e) (λ _ w. past_expression P e s s.stack w))
    × (n ≤ most_steps_from P s e)

-- The code of one expression, in a program's code and in any state before it.
use Rattle.std.proofs.Common.{ℕ, ◌+◌, ◌*◌, ◌≤◌, length, refl, arith}
use Rattle.bc_data.specs.Typed.{TypedExpression, TypedProgram}
use Rattle.bc_data.specs.WellTyped.{IsWellTyped}
use Rattle.bc_mean.specs.Execute.{calls}
use Rattle.bc_code.specs.declared.code.Code.{Code}
use Rattle.bc_code.specs.Instructions.{Reads, State}
use Rattle.bc_code.specs.Translation.{Translates, most_instructions}
use Rattle.bc_law_code.specs.Expressions.{CallRuns, ExpressionRuns, StandsBefore, most_steps_from}
use Rattle.bc_law_code.proofs.Bodies.{IsGround, Standing}
use Rattle.bc_law_code.proofs.Calls.{calls_run}
use Rattle.bc_law_code.proofs.Costs.{cost, ends}
use Rattle.bc_law_code.proofs.Expressions.{expression_runs}
use Rattle.bc_law_code.proofs.Leads.{Ground, world}
use Rattle.bc_law_code.proofs.Statements.{perform_runs}

abbrev ground : TypedProgram → Code → Reads → Ground
ground P code R = record { program = P; code = code; look = R.look; objects = R.objects; most = most_instructions }

is_ground :
    (P : TypedProgram) (code : Code) (R : Reads) → IsWellTyped P → Translates P code → IsGround (ground P code R)
is_ground P code R typed translates = record { translates = translates; typed = typed; room = omega arith }

-- the unit of the state and the calls around it: calls in it do what the meaning's do
abbrev standing :
    (P : TypedProgram) (code : Code) (R : Reads) (turns : ℕ) (s : State) (e : TypedExpression)
    → IsGround (ground P code R) → StandsBefore P code s e → Standing (ground P code R)
standing P code R turns s e ok stands = record {
  number = s.current.unit;
  unit = stands.unit;
  there = stands.there;
  callers = s.callers;
  depth = length s.callers;
  deep = refl;
  calls = calls (world (ground P code R)) turns (length s.callers);
  runs = calls_run (ground P code R) ok turns (length s.callers);
}

few_steps :
    (P : TypedProgram) (s : State) (e : TypedExpression) (steps left : ℕ)
    → steps + most_instructions * left ≤ cost P.classes e + most_instructions * s.work.turns
    → steps ≤ most_steps_from P s e
few_steps P s e steps left h = omega (arith, ends P.classes e s.current.next)

pub one_expression_runs : ExpressionRuns
one_expression_runs P code R turns s set e sh typed translates has stands right =
    let ok = is_ground P code R typed translates in
    let S = standing P code R turns s e ok stands in
    let l = expression_runs ok S s.current.frame set e sh s.current.next s.stack s.work has stands.has in
    (l.steps, l.is right, few_steps P s e l.steps _ (l.bound right))

pub one_call_runs : CallRuns
one_call_runs P code R turns s set e typed translates has stands right =
    let ok = is_ground P code R typed translates in
    let S = standing P code R turns s e ok stands in
    let l = perform_runs ok S s.current.frame set e s.current.next s.stack s.work has stands.has in
    (l.steps, l.is right, few_steps P s e l.steps _ (l.bound right))

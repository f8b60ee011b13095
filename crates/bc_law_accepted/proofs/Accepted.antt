-- Accepted programs are well typed: the parts together.
use Rattle.std.proofs.Common.{ℕ, List, length}
use Rattle.bc_data.specs.SourceTree.{Method, MethodOf}
use Rattle.bc_data.specs.Typed.{TypedMethod, TypedProgram}
use Rattle.bc_data.specs.WellTyped as facts
use Rattle.bc_types_rules.specs.Context.{Names}
use Rattle.bc_types_rules.specs.ProgramRules as rules
use Rattle.bc_law_accepted.specs.Laws.{AcceptedIsWellTyped}
use Rattle.bc_law_accepted.proofs.Agreement.{Agrees}
use Rattle.bc_law_accepted.proofs.Spelled.{HasNoResult}
use Rattle.bc_law_accepted.proofs.Bodies.{BodiesAreTyped}
use Rattle.bc_law_accepted.proofs.Growth.{do_grow}
use Rattle.bc_law_accepted.proofs.TypedMethods.{maker_typed, method_typed}
use Rattle.bc_law_accepted.proofs.TypedStatements.{body_typed, leave_typed}
use Rattle.bc_law_accepted.proofs.TypedTasks.{task_typed}
use Rattle.bc_law_accepted.proofs.Whole.{Parts, accepted_with}

bodies : BodiesAreTyped
bodies = record {
  typed = body_typed;
  behind = λ G K tag_types params s ss ds t agrees scope none h. let g = do_grow G params s ss ds t scope h in (g.scope, g.slots, g.tags);
  leaves = λ G s ss ds t h l. leave_typed G s ss ds t l h;
}

maker : (P : TypedProgram) (N : Names) (me : ℕ) (name : List ℕ) (m : Method) (y : TypedMethod) → Agrees N P.classes (length P.tag_types) → rules.IsMaker N me name m y → HasNoResult m → facts.IsMaker P me y
maker P N me name (MethodOf result x formals body) y agrees is none = maker_typed bodies P N me name result x formals body y agrees none is

parts : Parts
parts = record { method = method_typed bodies; maker = maker; task = task_typed bodies }

pub accepted_is_well_typed : AcceptedIsWellTyped
accepted_is_well_typed = accepted_with parts

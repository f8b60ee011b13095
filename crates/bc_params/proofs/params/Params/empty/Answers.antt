use Rattle.std.proofs.Common.{List, subst, arith}
use Rattle.bc_data.specs.Typed.{TypedTask}
use Rattle.bc_params_sets.specs.Kept.{AreTasks}
use Rattle.bc_params.specs.Look.{nobody}
use Rattle.bc_params.proofs.Unfilled.{nobody_rises}
use Rattle.bc_params.proofs.Searchable.{program_searchable}
use Rattle.bc_params.proofs.params.Params.empty.Goals as goal

pub invariant_of-result : goal.invariant_of-result
invariant_of-result c = (
  λ k d h m e l. omega arith,
  nobody_rises c.tasks.result.now c.in_ok-empty_tasks.field-0.items c.in_ok-empty_tasks.ensures,
  program_searchable c.args.program.now nobody c.in_ok-empty_tasks.field-0.items c.is_well_typed.ensures (subst (λ (ts : List TypedTask). AreTasks nobody ts c.in_ok-empty_tasks.field-0.items) c.tasks.ensures c.in_ok-empty_tasks.ensures),
)

use Rattle.std.proofs.Common.{take}
use Rattle.bc_params_sets.specs.Kept.{AreTasks}
use Rattle.bc_params.specs.Look.{nobody}
use Rattle.bc_params.proofs.empty.empty_tasks.Given as goal

abbrev pub invariant-loop-task : goal.invariant-loop-task
invariant-loop-task l = AreTasks nobody (take l.task-index l.tasks) l.sets.items

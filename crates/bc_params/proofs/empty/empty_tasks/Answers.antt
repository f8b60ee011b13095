use Rattle.std.proofs.Common.{◌+◌, ◌<◌, length, take, subst, sym, arith}
use Rattle.bc_data.specs.Typed.{TypedTask}
use Rattle.bc_params_sets.specs.Kept.{AreTasks, IsTaskSets}
use Rattle.bc_params.specs.Look.{nobody}
use Rattle.bc_params.proofs.Unfilled.{tasks_more}
use Rattle.bc_params.proofs.empty.empty_tasks.Goals as goal

pub loop-task-preserved : goal.loop-task-preserved
loop-task-preserved c =
    let within : c.loop-task.task-index < length c.args.tasks.now = omega arith in
    subst (AreTasks nobody (take (c.loop-task.task-index + 1) c.args.tasks.now)) (sym c.in_ok-push.ensures.items)
    (tasks_more nobody c.args.tasks.now c.loop-task.task-index c.task-item.result c.loop-task.sets.items c.in_ok-empty_task.field-0 within c.loop-task.invariant
    (subst (λ (t : TypedTask). IsTaskSets nobody t c.in_ok-empty_task.field-0) c.task-item.is c.in_ok-empty_task.ensures))

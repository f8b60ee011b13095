use Rattle.std.proofs.Common.{◌≡◌, ◌++◌, map, take}
use Rattle.bc_code.specs.Listing.{task_name}
use Rattle.bc_code.proofs.listing.push_tasks.Given as goal

abbrev pub invariant-loop-task : goal.invariant-loop-task
invariant-loop-task l = l.names ≡ l.fn.names ++ map task_name (take l.task-index l.tasks)

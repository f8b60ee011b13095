use Rattle.std.proofs.Common.{take}
use Rattle.bc_code.specs.Translation.{IsTaskUnit}
use Rattle.bc_gen_stmt.specs.Units.{Appended}
use Rattle.bc_gen_stmt.proofs.code.put_tasks.Given as goal

abbrev pub invariant-loop-task : goal.invariant-loop-task
invariant-loop-task l = Appended (IsTaskUnit l.classes) (take l.task-index l.tasks) l.initial.units l.units

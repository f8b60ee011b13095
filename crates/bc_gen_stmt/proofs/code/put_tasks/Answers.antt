use Rattle.std.proofs.Common.{◌≡◌, ◌<◌, ◌+◌, ◌++◌, ◌∷◌, [], length, take, sym, ◌∙◌, ap, subst, arith}
use Rattle.std.proofs.lemmas.List.{take_more}
use Rattle.bc_code.specs.Translation.{IsTaskUnit}
use Rattle.bc_gen_stmt.specs.Units.{Appended}
use Rattle.bc_gen_stmt.proofs.Appending.{one_appended}
use Rattle.bc_gen_stmt.proofs.code.put_tasks.Goals as goal

pub loop-task-preserved : goal.loop-task-preserved
loop-task-preserved c =
    let K = c.args.classes.now in
    let tasks = c.args.tasks.now in
    let i = c.loop-task.task-index in
    let within : i < length tasks = omega arith in
    let more : take i tasks ++ c.task-item.result ∷ [] ≡ take (i + 1) tasks =
    ap (λ x. take i tasks ++ x ∷ []) c.task-item.is ∙ sym (take_more tasks i c.task-item.result within) in
    let one =
    one_appended (IsTaskUnit K) (take i tasks) c.task-item.result _ _ _ _ c.loop-task.invariant
    c.in_ok-task_unit.ensures c.in_ok-push.ensures.ok in
    subst (λ l. Appended (IsTaskUnit K) l c.args.units.now c.push.new.self) more one

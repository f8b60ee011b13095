use Rattle.std.proofs.Common.{◌<◌, length, arith}
use Rattle.std.proofs.lemmas.Result.{err_from_is_err_and}
use Rattle.bc_types_rules.specs.Statements.{check_action}
use Rattle.bc_types_expr.specs.Looks.{looks}
use Rattle.bc_types_stat.specs.Bodies.{parameter_seen}
use Rattle.bc_types_stat.proofs.Walks.{fold_on, fold_stops}
use Rattle.bc_types_stat.proofs.exit.add_actions.Goals as goal

pub returns-in_err-add_action : goal.returns-in_err-add_action
returns-in_err-add_action c =
    let within : c.loop-action.action-index < length c.args.actions.now = omega arith in
    let p = err_from_is_err_and c.from_residual.result c.from_residual.ensures.1 in
    rw (p.1, p.2) (fold_stops (check_action (looks c.args.table.now) c.args.scope.now (parameter_seen c.args.p)) c.args.changes.now.items c.loop-action.changes.items c.args.actions.now c.loop-action.action-index c.action-item.result c.in_err-add_action.field-0.0 within c.action-item.is c.loop-action.invariant c.in_err-add_action.ensures)

pub loop-action-preserved : goal.loop-action-preserved
loop-action-preserved c =
    let within : c.loop-action.action-index < length c.args.actions.now = omega arith in
    fold_on (check_action (looks c.args.table.now) c.args.scope.now (parameter_seen c.args.p)) c.args.changes.now.items c.loop-action.changes.items c.args.actions.now c.loop-action.action-index c.action-item.result _ within c.action-item.is c.loop-action.invariant c.in_ok-add_action.ensures

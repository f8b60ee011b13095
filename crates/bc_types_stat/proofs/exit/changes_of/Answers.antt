use Rattle.std.proofs.Common.{◌<◌, length, arith}
use Rattle.std.proofs.lemmas.Result.{err_from_is_err_and}
use Rattle.bc_data.specs.View.{view_change}
use Rattle.bc_types_rules.specs.Statements.{check_change, none_named}
use Rattle.bc_names.proofs.Walk.{walk_on, walk_stops}
use Rattle.bc_types_expr.specs.Looks.{looks}
use Rattle.bc_types_stat.specs.Bodies.{exiting_seen}
use Rattle.bc_types_stat.proofs.exit.changes_of.Goals as goal

pub returns-in_err-add_change : goal.returns-in_err-add_change
returns-in_err-add_change c =
    let within : c.loop-change.change-index < length c.args.changes.now = omega arith in
    let p = err_from_is_err_and c.from_residual.result c.from_residual.ensures.1 in
    rw (p.1, p.2) (walk_stops (check_change (looks c.args.table.now) c.args.scope.now) view_change c.in_err-add_change.field-0.0 none_named (exiting_seen c.loop-change.exiting) c.args.changes.now c.loop-change.change-index c.change-item.result within c.change-item.is c.loop-change.invariant c.in_err-add_change.ensures)

pub loop-change-preserved : goal.loop-change-preserved
loop-change-preserved c =
    let within : c.loop-change.change-index < length c.args.changes.now = omega arith in
    walk_on (check_change (looks c.args.table.now) c.args.scope.now) view_change none_named (exiting_seen c.loop-change.exiting) _ c.args.changes.now c.loop-change.change-index c.change-item.result within c.change-item.is c.loop-change.invariant c.in_ok-add_change.ensures

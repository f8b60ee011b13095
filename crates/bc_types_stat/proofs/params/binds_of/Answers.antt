use Rattle.std.proofs.Common.{◌<◌, length, arith}
use Rattle.std.proofs.lemmas.Result.{err_from_is_err_and}
use Rattle.bc_types_rules.specs.Bodies.{check_bind}
use Rattle.bc_types_expr.specs.Looks.{looks}
use Rattle.bc_types_stat.specs.Bodies.{binds_seen, unbound}
use Rattle.bc_types_stat.proofs.Walks.{fold_on, fold_stops}
use Rattle.bc_types_stat.proofs.params.binds_of.Goals as goal

pub returns-in_err-binds : goal.returns-in_err-binds
returns-in_err-binds c =
    let within : c.loop-b.b-index < length c.args.bs.now = omega arith in
    let p = err_from_is_err_and c.from_residual.result c.from_residual.ensures.1 in
    rw (p.1, p.2) (fold_stops (check_bind (looks c.args.table.now)) (unbound c.args.scope) (binds_seen c.loop-b.binds) c.args.bs.now c.loop-b.b-index c.b-item.result c.in_err-binds.field-0.0 within c.b-item.is c.loop-b.invariant c.in_err-binds.ensures)

pub loop-b-preserved : goal.loop-b-preserved
loop-b-preserved c =
    let within : c.loop-b.b-index < length c.args.bs.now = omega arith in
    fold_on (check_bind (looks c.args.table.now)) (unbound c.args.scope) (binds_seen c.loop-b.binds) c.args.bs.now c.loop-b.b-index c.b-item.result _ within c.b-item.is c.loop-b.invariant c.in_ok-binds.ensures

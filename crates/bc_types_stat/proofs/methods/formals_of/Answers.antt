use Rattle.std.proofs.Common.{◌<◌, length, arith}
use Rattle.std.proofs.lemmas.Result.{err_from_is_err_and}
use Rattle.bc_types_rules.specs.Bodies.{check_formal}
use Rattle.bc_types_expr.specs.Looks.{looks}
use Rattle.bc_types_stat.specs.Bodies.{formals_seen}
use Rattle.bc_types_stat.proofs.Walks.{fold_on, fold_stops}
use Rattle.bc_types_stat.proofs.methods.formals_of.Goals as goal

pub returns-in_err-add : goal.returns-in_err-add
returns-in_err-add c =
    let within : c.loop-x.x-index < length c.args.xs.now = omega arith in
    let p = err_from_is_err_and c.from_residual.result c.from_residual.ensures.1 in
    rw (p.1, p.2) (fold_stops (check_formal (looks c.args.table.now)) _ (formals_seen c.loop-x.formals) c.args.xs.now c.loop-x.x-index c.x-item.result c.in_err-add.field-0.0 within c.x-item.is c.loop-x.invariant c.in_err-add.ensures)

pub loop-x-preserved : goal.loop-x-preserved
loop-x-preserved c =
    let within : c.loop-x.x-index < length c.args.xs.now = omega arith in
    fold_on (check_formal (looks c.args.table.now)) _ (formals_seen c.loop-x.formals) c.args.xs.now c.loop-x.x-index c.x-item.result _ within c.x-item.is c.loop-x.invariant c.in_ok-add.ensures

use Rattle.std.proofs.Common.{◌<◌, length, arith}
use Rattle.std.proofs.lemmas.Result.{err_from_is_err_and}
use Rattle.bc_data.specs.View.{view_param}
use Rattle.bc_types_rules.specs.Bodies.{check_param}
use Rattle.bc_names.proofs.Walk.{walk_on, walk_stops}
use Rattle.bc_types_expr.specs.Looks.{looks}
use Rattle.bc_types_stat.specs.Bodies.{params_seen}
use Rattle.bc_types_stat.proofs.params.params_of.Goals as goal

pub returns-in_err-params : goal.returns-in_err-params
returns-in_err-params c =
    let within : c.loop-p.p-index < length c.args.ps.now = omega arith in
    let p = err_from_is_err_and c.from_residual.result c.from_residual.ensures.1 in
    rw (p.1, p.2) (walk_stops (check_param (looks c.args.table.now)) view_param c.in_err-params.field-0.0 _ (params_seen c.loop-p.params) c.args.ps.now c.loop-p.p-index c.p-item.result within c.p-item.is c.loop-p.invariant c.in_err-params.ensures)

pub loop-p-preserved : goal.loop-p-preserved
loop-p-preserved c =
    let within : c.loop-p.p-index < length c.args.ps.now = omega arith in
    walk_on (check_param (looks c.args.table.now)) view_param _ (params_seen c.loop-p.params) _ c.args.ps.now c.loop-p.p-index c.p-item.result within c.p-item.is c.loop-p.invariant c.in_ok-params.ensures

use Rattle.std.proofs.Common.{◌<◌, ◌∙◌, ap, sym, subst, [], length, arith}
use Rattle.std.proofs.lemmas.List.{take_all}
use Rattle.std.proofs.lemmas.Result.{err_from_is_err_and}
use Rattle.bc_data.specs.SourceTree.{Empty}
use Rattle.bc_data.specs.View.{onto_by}
use Rattle.bc_types_rules.specs.Numbering.{try_fold}
use Rattle.bc_types_rules.specs.Expressions.{check_tweak}
use Rattle.bc_names.proofs.Walk.{walk_on, walk_stops}
use Rattle.bc_names.specs.Answers.{Stops}
use Rattle.bc_types_expr.specs.Looks.{looks}
use Rattle.bc_types_expr.proofs.Rows.{onto_each}
use Rattle.bc_types_expr.proofs.making.tweaks_of.Goals as goal

pub returns-in_err-add_tweak : goal.returns-in_err-add_tweak
returns-in_err-add_tweak c =
    let step = check_tweak (looks c.args.table.now) c.args.scope.now c.args.class in
    let within : c.loop-action.action-index < length c.args.actions.now = omega arith in
    let p = err_from_is_err_and c.from_residual.result c.from_residual.ensures.1 in
    let stop = walk_stops step (λ x. x) c.in_err-add_tweak.field-0.0 [] c.loop-action.tweaks.items c.args.actions.now c.loop-action.action-index c.action-item.result within c.action-item.is c.loop-action.invariant c.in_err-add_tweak.ensures in
    rw (p.1, p.2) (subst (λ xs. Stops c.in_err-add_tweak.field-0.0 (try_fold step [] xs)) (sym (onto_each c.args.actions.now Empty)) stop)

pub loop-action-preserved : goal.loop-action-preserved
loop-action-preserved c =
    let step = check_tweak (looks c.args.table.now) c.args.scope.now c.args.class in
    let within : c.loop-action.action-index < length c.args.actions.now = omega arith in
    walk_on step (λ x. x) [] c.loop-action.tweaks.items _ c.args.actions.now c.loop-action.action-index c.action-item.result within c.action-item.is c.loop-action.invariant c.in_ok-add_tweak.ensures

pub returns : goal.returns
returns c =
    let step = check_tweak (looks c.args.table.now) c.args.scope.now c.args.class in
    ap (try_fold step []) (onto_each c.args.actions.now Empty)
    ∙ ap (λ xs. try_fold step [] (onto_by (λ x. x) xs Empty)) (sym (take_all c.loop-action.action-index c.args.actions.now c.loop-action-test.false))
    ∙ c.loop-action.invariant

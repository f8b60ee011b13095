use Rattle.std.proofs.Common.{◌≡◌, ◌∙◌, ap, sym, subst}
use Rattle.std.proofs.lemmas.Result.{err_from_is_err_and}
use Rattle.bc_data.specs.SourceTree.{Empty, Nothing}
use Rattle.bc_data.specs.View.{onto_by, stat_views, view_param}
use Rattle.bc_types_rules.specs.Got.{Gives}
use Rattle.bc_data.specs.Typed as typed
use Rattle.bc_data.specs.ProgramView.{program_stat_views}
use Rattle.bc_names.specs.Answers.{Stops}
use Rattle.bc_types_expr.specs.Looks.{looks}
use Rattle.bc_types_stat.specs.Bodies.{all_stated, block_of, check_params, params_seen}
use Rattle.bc_types_stat.proofs.TaskSteps.{in_task, task_gives, task_stops}
use Rattle.bc_types_stat.proofs.tasks.task.Goals as goal

pub returns-in_err-body : goal.returns-in_err-body
returns-in_err-body c =
    let N = looks c.args.table.now in
    let t = c.args.t.now in
    let ps = params_seen c.in_ok-params.params in
    let f = c.in_err-body.field-0.0 in
    let given = subst (λ xs. check_params N (onto_by view_param xs Empty) ≡ Gives ps) c.as_slice.ensures.value c.in_ok-params.ensures in
    let stop = subst (λ s. Stops f (block_of (in_task N) s (stat_views t.body.items Nothing))) c.into_parts-scope.ensures.scope (subst (λ xs. Stops f (block_of (in_task N) c.into_parts-scope.result.0 (stat_views xs Nothing))) c.as_slice-2.ensures.value c.in_err-body.ensures) in
    let p = err_from_is_err_and c.from_residual-in_err-body.result c.from_residual-in_err-body.ensures.1 in
    let params = onto_by view_param t.params.items Empty in
    rw (p.1, p.2) (task_stops N t.at t.name params (stat_views t.body.items Nothing) ps f given stop)

pub returns : goal.returns
returns c =
    let N = looks c.args.table.now in
    let t = c.args.t.now in
    let ps = params_seen c.in_ok-params.params in
    let given = subst (λ xs. check_params N (onto_by view_param xs Empty) ≡ Gives ps) c.as_slice.ensures.value c.in_ok-params.ensures in
    let b = all_stated (program_stat_views c.in_ok-body.body.items typed.Nothing) c.block.new.scope in
    let e = subst (λ s. block_of (in_task N) s (stat_views t.body.items Nothing) ≡ Gives b) c.into_parts-scope.ensures.scope (subst (λ xs. block_of (in_task N) c.into_parts-scope.result.0 (stat_views xs Nothing) ≡ Gives b) c.as_slice-2.ensures.value c.in_ok-body.ensures) in
    let name = c.in_ok-name.ensures ∙ c.as_slice-3.ensures in
    let params = onto_by view_param t.params.items Empty in
    let variables = c.into_parts-scope.result.1.items in
    task_gives N t.at t.name params (stat_views t.body.items Nothing) ps
    c.in_ok-name.name variables c.slots-locals.result c.tags-tags.result b.codes b.scope given e
    name c.into_parts-scope.ensures.types c.slots-locals.ensures c.tags-tags.ensures
    ∙ ap Gives (sym c.new.ensures)

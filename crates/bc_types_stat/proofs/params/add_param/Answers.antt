use Rattle.std.proofs.Common.{◌≡◌, [], ◌∷◌, ◌++◌, ◌∙◌, ap, sym, subst}
use Rattle.std.proofs.lemmas.Result.{err_from_is_err_and}
use Rattle.bc_data.specs.SourceTree.{Empty}
use Rattle.bc_data.specs.View.{onto, view_guard}
use Rattle.bc_types_rules.specs.Got.{Gives, Unknown, find}
use Rattle.bc_types_rules.specs.Numbering.{try_fold}
use Rattle.bc_types_rules.specs.Bodies as rules
use Rattle.bc_types_rules.specs.Bodies.{check_bind}
use Rattle.bc_types_rules.specs.Context.{with_parameter}
use Rattle.bc_data.specs.ProgramView.{view_flag_expr}
use Rattle.bc_names.specs.Answers.{Stops}
use Rattle.bc_types_expr.specs.Looks.{looks}
use Rattle.bc_types_stat.specs.Bodies.{binds_seen, params_seen, unbound}
use Rattle.bc_types_stat.proofs.Chains.{goes_on, stops_then}
use Rattle.bc_types_stat.proofs.Parameters.{param_is, params_with}
use Rattle.bc_types_stat.proofs.params.add_param.Goals as goal

pub returns-in_err-binds : goal.returns-in_err-binds
returns-in_err-binds c =
    let N = looks c.args.table.now in
    let ps = params_seen c.args.params in
    let p = c.args.p.now in
    let f = c.in_err-binds.field-0.0 in
    let binds = onto p.binds.items Empty in
    let found = subst (λ name. find (N.class_of name) Unknown p.class.at ≡ Gives c.in_ok-class.class) c.as_slice.ensures c.in_ok-class.ensures in
    let stop = subst (λ s. Stops f (try_fold (check_bind N) (unbound s) binds)) c.in_ok-scope.ensures (subst (λ bs. Stops f (try_fold (check_bind N) (unbound c.in_ok-scope.scope) (onto bs Empty))) c.as_slice-2.ensures.value c.in_err-binds.ensures) in
    let made = view_flag_expr c.in_ok-guard.guard in
    let q = err_from_is_err_and c.from_residual-in_err-binds.result c.from_residual-in_err-binds.ensures.1 in
    rw (q.1, q.2) (subst (Stops f) (sym (param_is N ps p.class p.name (view_guard p.guard) binds c.in_ok-class.class made found c.in_ok-check_parameter.ensures.answers c.in_ok-guard.ensures)) (stops_then f (try_fold (check_bind N) (unbound (with_parameter ps.scope p.name c.in_ok-class.class)) binds) (params_with N ps p.class p.name (view_guard p.guard) binds c.in_ok-class.class made) stop))

pub returns : goal.returns
returns c =
    let N = looks c.args.table.now in
    let ps = params_seen c.args.params in
    let p = c.args.p.now in
    let binds = onto p.binds.items Empty in
    let bs = binds_seen c.in_ok-binds.binds in
    let found = subst (λ name. find (N.class_of name) Unknown p.class.at ≡ Gives c.in_ok-class.class) c.as_slice.ensures c.in_ok-class.ensures in
    let bound = subst (λ s. try_fold (check_bind N) (unbound s) binds ≡ Gives bs) c.in_ok-scope.ensures (subst (λ xs. try_fold (check_bind N) (unbound c.in_ok-scope.scope) (onto xs Empty) ≡ Gives bs) c.as_slice-2.ensures.value c.in_ok-binds.ensures) in
    let made = view_flag_expr c.in_ok-guard.guard in
    let each = c.in_ok-push.ensures.items ∙ ap (λ q. ps.each ++ q ∷ []) c.new-param.ensures in
    param_is N ps p.class p.name (view_guard p.guard) binds c.in_ok-class.class made found c.in_ok-check_parameter.ensures.answers c.in_ok-guard.ensures
    ∙ goes_on _ (params_with N ps p.class p.name (view_guard p.guard) binds c.in_ok-class.class made) bs bound
    ∙ ap (λ xs. let r : rules.Params = record { each = xs; scope = bs.scope } in Gives r) (sym each)

use Rattle.std.proofs.Common.{◌≡◌, ◌==◌, not, subst}
use Rattle.std.specs.List.{list_any}
use Rattle.std.proofs.lemmas.Result.{err_from_is_err_and}
use Rattle.bc_data.specs.SourceTree.{Empty}
use Rattle.bc_data.specs.View.{onto}
use Rattle.bc_types_rules.specs.Got.{ask, Gives, Twice}
use Rattle.bc_types_rules.specs.Numbering.{try_fold}
use Rattle.bc_types_rules.specs.Statements.{check_action}
use Rattle.bc_names.specs.Answers.{Stops}
use Rattle.bc_types_expr.specs.Looks.{looks}
use Rattle.bc_types_stat.specs.Bodies.{exiting_seen, parameter_seen}
use Rattle.bc_types_stat.proofs.Changes.{action_stops, named_before}
use Rattle.bc_types_stat.proofs.exit.add_change.Goals as goal

pub returns-in_err-ask_unnamed : goal.returns-in_err-ask_unnamed
returns-in_err-ask_unnamed c =
    let a = c.args in
    let at = a.change.now.param.at in
    let number = c.in_ok-p.p.number in
    let stop = subst (λ ns. Stops c.in_err-ask_unnamed.field-0.0 (ask (not (list_any (λ n. n == number) ns)) Twice at)) c.as_slice.ensures.value c.in_err-ask_unnamed.ensures in
    let p = err_from_is_err_and c.from_residual-in_err-ask_unnamed.result c.from_residual-in_err-ask_unnamed.ensures.1 in
    rw (p.1, p.2) (named_before (looks a.table.now) a.scope.now (exiting_seen a.exiting.now) a.change.now.param (onto a.change.now.actions.items Empty) (parameter_seen c.in_ok-p.p) c.in_err-ask_unnamed.field-0.0 c.in_ok-p.ensures stop)

pub returns-in_err-add_actions : goal.returns-in_err-add_actions
returns-in_err-add_actions c =
    let a = c.args in
    let at = a.change.now.param.at in
    let number = c.in_ok-p.p.number in
    let new = subst (λ ns. ask (not (list_any (λ n. n == number) ns)) Twice at ≡ Gives tt) c.as_slice.ensures.value c.in_ok-ask_unnamed.ensures in
    let stop = subst (λ xs. Stops c.in_err-add_actions.field-0.0 (try_fold (check_action (looks a.table.now) a.scope.now (parameter_seen c.in_ok-p.p)) a.exiting.now.changes.items (onto xs Empty))) c.as_slice-2.ensures.value c.in_err-add_actions.ensures in
    let p = err_from_is_err_and c.from_residual-in_err-add_actions.result c.from_residual-in_err-add_actions.ensures.1 in
    rw (p.1, p.2) (action_stops (looks a.table.now) a.scope.now (exiting_seen a.exiting.now) a.change.now.param (onto a.change.now.actions.items Empty) (parameter_seen c.in_ok-p.p) c.in_err-add_actions.field-0.0 c.in_ok-p.ensures new stop)

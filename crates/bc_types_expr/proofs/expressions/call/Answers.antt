use Rattle.std.proofs.Common.{◌≡◌, subst}
use Rattle.std.proofs.lemmas.Result.{err_from_is_err_and}
use Rattle.bc_data.specs.SourceTree.{NoArg}
use Rattle.bc_data.specs.View.{view, views}
use Rattle.bc_types_rules.specs.Got.{Gives}
use Rattle.bc_types_rules.specs.Expressions.{check_call, infer, infer_all}
use Rattle.bc_types_rules.specs.Statements.{infer_call}
use Rattle.bc_names.specs.Answers.{Stops}
use Rattle.bc_types_expr.specs.Contexts.{context_of}
use Rattle.bc_types_expr.specs.Expressions.{arguments_seen, called_seen, typed_seen}
use Rattle.bc_types_expr.proofs.LeftToRight.{stops, answers, statement_first}
use Rattle.bc_types_expr.proofs.expressions.call.Goals as goal

pub returns-in_err-ys-in-Call : goal.returns-in_err-ys-in-Call
returns-in_err-ys-in-Call c =
    let G = context_of c.args.inside.now in
    let s = c.args.scope.now in
    let a = c.in-Call in
    let o = subst (λ e. infer G s (view e) ≡ Gives (typed_seen c.in_ok-o-in-Call.o)) c.deref.ensures c.in_ok-o-in-Call.ensures in
    let f = subst (λ es. Stops c.in_err-ys-in-Call.field-0.0 (infer_all G s (views es NoArg))) c.deref-in-Call.ensures.value c.in_err-ys-in-Call.ensures in
    let p = err_from_is_err_and c.from_residual-in_err-ys-in-Call.result c.from_residual-in_err-ys-in-Call.ensures.1 in
    let e = statement_first G s a.at a.object a.m a.args c.args.e.now (typed_seen c.in_ok-o-in-Call.o) a.is o in
    rw (p.1, p.2) (stops c.in_err-ys-in-Call.field-0.0 (infer_all G s (views a.args.items NoArg)) (λ ys. check_call G.names a.at (typed_seen c.in_ok-o-in-Call.o) a.m ys) (infer_call G s (view c.args.e.now)) e f)

pub returns-in_ok-ys-in-Call : goal.returns-in_ok-ys-in-Call
returns-in_ok-ys-in-Call c =
    let G = context_of c.args.inside.now in
    let s = c.args.scope.now in
    let a = c.in-Call in
    let o = subst (λ e. infer G s (view e) ≡ Gives (typed_seen c.in_ok-o-in-Call.o)) c.deref.ensures c.in_ok-o-in-Call.ensures in
    let ys = subst (λ es. infer_all G s (views es NoArg) ≡ Gives (arguments_seen c.in_ok-ys-in-Call.ys)) c.deref-in-Call.ensures.value c.in_ok-ys-in-Call.ensures in
    let e = statement_first G s a.at a.object a.m a.args c.args.e.now (typed_seen c.in_ok-o-in-Call.o) a.is o in
    answers c.call_of.result called_seen (infer_all G s (views a.args.items NoArg)) (λ ys. check_call G.names a.at (typed_seen c.in_ok-o-in-Call.o) a.m ys) (infer_call G s (view c.args.e.now)) (arguments_seen c.in_ok-ys-in-Call.ys) e ys c.call_of.ensures

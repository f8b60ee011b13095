use Rattle.std.proofs.Common.{◌≡◌, ◌<◌, subst, refl, length, arith}
use Rattle.std.proofs.lemmas.Result.{err_from_is_err_and}
use Rattle.bc_data.specs.SourceTree.{NoArg, Empty}
use Rattle.bc_data.specs.View.{view, views, onto}
use Rattle.bc_types_rules.specs.Got.{Gives}
use Rattle.bc_types_rules.specs.Expressions.{infer, infer_all}
use Rattle.bc_names.specs.Answers.{Answers, Stops}
use Rattle.bc_types_expr.specs.Contexts.{context_of}
use Rattle.bc_types_expr.specs.Expressions.{arguments_seen, typed_seen}
use Rattle.bc_types_expr.specs.Tails.{call_value, made}
use Rattle.bc_types_expr.proofs.LeftToRight.{args_on, args_stop, read, stops, answers, value_first, make_first}
use Rattle.bc_types_expr.proofs.expressions.+expressions.Goals as goal

pub arguments-returns-in_err-x : goal.arguments-returns-in_err-x
arguments-returns-in_err-x t c =
    let within : c.loop-e.e-index < length c.args.es.now = omega arith in
    let p = err_from_is_err_and c.from_residual.result c.from_residual.ensures.1 in
    rw (p.1, p.2) (args_stop c.in_err-x.field-0.0 (context_of c.args.inside.now) c.args.scope.now c.args.es.now c.loop-e.e-index c.e-item.result (read c.loop-e.codes.items c.loop-e.each.items) within c.e-item.is c.loop-e.invariant c.in_err-x.ensures)

pub arguments-loop-e-preserved : goal.arguments-loop-e-preserved
arguments-loop-e-preserved t c =
    let within : c.loop-e.e-index < length c.args.es.now = omega arith in
    args_on (context_of c.args.inside.now) c.args.scope.now c.args.es.now c.loop-e.e-index c.e-item.result c.loop-e.codes.items _ c.loop-e.each.items _ c.in_ok-x.x _ within c.e-item.is c.loop-e.invariant c.in_ok-x.ensures c.in_ok-push.ensures.items c.in_ok-push-2.ensures.items refl c.place_of.ensures

pub expression-returns-in_err-ys-in-Call : goal.expression-returns-in_err-ys-in-Call
expression-returns-in_err-ys-in-Call t c =
    let G = context_of c.args.inside.now in
    let s = c.args.scope.now in
    let a = c.in-Call in
    let o = subst (λ e. infer G s (view e) ≡ Gives (typed_seen c.in_ok-o-in-Call.o)) c.deref-in-Call.ensures c.in_ok-o-in-Call.ensures in
    let f = subst (λ es. Stops c.in_err-ys-in-Call.field-0.0 (infer_all G s (views es NoArg))) c.deref-in-Call-2.ensures.value c.in_err-ys-in-Call.ensures in
    let p = err_from_is_err_and c.from_residual-in_err-ys-in-Call.result c.from_residual-in_err-ys-in-Call.ensures.1 in
    let e = value_first G s a.at a.object a.m a.args c.args.e.now (typed_seen c.in_ok-o-in-Call.o) a.is o in
    rw (p.1, p.2) (stops c.in_err-ys-in-Call.field-0.0 (infer_all G s (views a.args.items NoArg)) (λ ys. call_value G.names a.at (typed_seen c.in_ok-o-in-Call.o) a.m ys) (infer G s (view c.args.e.now)) e f)

pub expression-returns-in_ok-ys-in-Call : goal.expression-returns-in_ok-ys-in-Call
expression-returns-in_ok-ys-in-Call t c =
    let G = context_of c.args.inside.now in
    let s = c.args.scope.now in
    let a = c.in-Call in
    let o = subst (λ e. infer G s (view e) ≡ Gives (typed_seen c.in_ok-o-in-Call.o)) c.deref-in-Call.ensures c.in_ok-o-in-Call.ensures in
    let ys = subst (λ es. infer_all G s (views es NoArg) ≡ Gives (arguments_seen c.in_ok-ys-in-Call.ys)) c.deref-in-Call-2.ensures.value c.in_ok-ys-in-Call.ensures in
    let e = value_first G s a.at a.object a.m a.args c.args.e.now (typed_seen c.in_ok-o-in-Call.o) a.is o in
    answers c.value_of_call.result typed_seen (infer_all G s (views a.args.items NoArg)) (λ ys. call_value G.names a.at (typed_seen c.in_ok-o-in-Call.o) a.m ys) (infer G s (view c.args.e.now)) (arguments_seen c.in_ok-ys-in-Call.ys) e ys c.value_of_call.ensures

pub expression-returns-in_err-ys-in-Make : goal.expression-returns-in_err-ys-in-Make
expression-returns-in_err-ys-in-Make t c =
    let G = context_of c.args.inside.now in
    let s = c.args.scope.now in
    let a = c.in-Make in
    let f = subst (λ es. Stops c.in_err-ys-in-Make.field-0.0 (infer_all G s (views es NoArg))) c.deref-in-Make.ensures.value c.in_err-ys-in-Make.ensures in
    let p = err_from_is_err_and c.from_residual-in_err-ys-in-Make.result c.from_residual-in_err-ys-in-Make.ensures.1 in
    let e = make_first G s a.at a.x a.args a.tweaks c.args.e.now a.is in
    rw (p.1, p.2) (stops c.in_err-ys-in-Make.field-0.0 (infer_all G s (views a.args.items NoArg)) (λ ys. made G.names s a.at a.x ys (onto a.tweaks.items Empty)) (infer G s (view c.args.e.now)) e f)

pub expression-returns-in_ok-ys-in-Make : goal.expression-returns-in_ok-ys-in-Make
expression-returns-in_ok-ys-in-Make t c =
    let G = context_of c.args.inside.now in
    let s = c.args.scope.now in
    let a = c.in-Make in
    let ys = subst (λ es. infer_all G s (views es NoArg) ≡ Gives (arguments_seen c.in_ok-ys-in-Make.ys)) c.deref-in-Make.ensures.value c.in_ok-ys-in-Make.ensures in
    let e = make_first G s a.at a.x a.args a.tweaks c.args.e.now a.is in
    let rest = subst (λ l. Answers c.object.result typed_seen (made G.names s a.at a.x (arguments_seen c.in_ok-ys-in-Make.ys) (onto l Empty))) c.deref-in-Make-2.ensures.value c.object.ensures in
    answers c.object.result typed_seen (infer_all G s (views a.args.items NoArg)) (λ ys. made G.names s a.at a.x ys (onto a.tweaks.items Empty)) (infer G s (view c.args.e.now)) (arguments_seen c.in_ok-ys-in-Make.ys) e ys rest

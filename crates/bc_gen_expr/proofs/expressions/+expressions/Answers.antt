use Rattle.std.proofs.Common.{◌≡◌, ◌∙◌, ◌<◌, ap, sym, subst, length, arith, OnOk}
use Rattle.std.proofs.lemmas.Result.{on_ok_weaker}
use Rattle.bc_data.specs.Typed.{NoArg, Two}
use Rattle.bc_data.specs.ProgramView.{expr_views, view_expr}
use Rattle.bc_code.specs.Instructions.{nowhere}
use Rattle.bc_code.specs.Translation.{count, most_instructions}
use Rattle.bc_gen_expr.specs.Written.{written}
use Rattle.bc_gen_expr.proofs.Arms.{EmitsOne, EmitsTweaks, one_operand, two_operands, calculated, shortened, one_more, called, made, few_arguments}
use Rattle.bc_gen_expr.proofs.Rows.{view_call, view_make, count_views}
use Rattle.bc_gen_expr.proofs.Stays.{Emits, EmitsAll}
use Rattle.bc_gen_expr.proofs.expressions.+expressions.Goals as goal

pub arguments-loop-e-preserved : goal.arguments-loop-e-preserved
arguments-loop-e-preserved t c =
    let within : c.loop-e.e-index < length c.args.es.now = omega arith in
    one_more c.args.classes.now c.args.es.now c.loop-e.e-index c.e-item.result within c.e-item.is c.loop-e.invariant c.in_ok-expression.ensures

pub arguments-overflow_cast-result : goal.arguments-overflow_cast-result
unfolding most_instructions
arguments-overflow_cast-result t c =
    let few = few_arguments c.args.classes.now c.args.es.now c.loop-e.e-index (omega arith) c.loop-e.invariant in
    omega arith

pub arguments-returns-clause-counted : goal.arguments-returns-clause-counted
arguments-returns-clause-counted t c = sym (count_views c.args.es.now)

pub expression-returns-in_ok-expression-in-Neg : goal.expression-returns-in_ok-expression-in-Neg
expression-returns-in_ok-expression-in-Neg t c =
    let k = c.args.classes.now in
    let a = subst (λ x. Emits k (view_expr x) c.args.out.now c.expression.new.out) c.deref.ensures c.in_ok-expression-in-Neg.ensures in
    subst (λ x. OnOk c.put-in-Neg.result (Emits k (view_expr x) c.args.out.now c.put-in-Neg.new.out)) (sym c.in-Neg.is)
    (on_ok_weaker c.put-in-Neg.result (one_operand k (view_expr c.in-Neg.operand.value) a) c.put-in-Neg.ensures)

pub expression-returns-in_ok-expression-in-Not : goal.expression-returns-in_ok-expression-in-Not
expression-returns-in_ok-expression-in-Not t c =
    let k = c.args.classes.now in
    let a = subst (λ x. Emits k (view_expr x) c.args.out.now c.expression-in-Not.new.out) c.deref-in-Not.ensures c.in_ok-expression-in-Not.ensures in
    subst (λ x. OnOk c.put-in-Not.result (Emits k (view_expr x) c.args.out.now c.put-in-Not.new.out)) (sym c.in-Not.is)
    (on_ok_weaker c.put-in-Not.result (one_operand k (view_expr c.in-Not.operand.value) a) c.put-in-Not.ensures)

pub expression-returns-in_ok-expression-in-Field : goal.expression-returns-in_ok-expression-in-Field
expression-returns-in_ok-expression-in-Field t c =
    let k = c.args.classes.now in
    let a = subst (λ x. Emits k (view_expr x) c.args.out.now c.expression-in-Field.new.out) c.deref-in-Field.ensures c.in_ok-expression-in-Field.ensures in
    subst (λ x. OnOk c.put-in-Field.result (Emits k (view_expr x) c.args.out.now c.put-in-Field.new.out)) (sym c.in-Field.is)
    (on_ok_weaker c.put-in-Field.result (one_operand k (view_expr c.in-Field.object.value) a) c.put-in-Field.ensures)

pub expression-returns-in_ok-expression-in-Length : goal.expression-returns-in_ok-expression-in-Length
expression-returns-in_ok-expression-in-Length t c =
    let k = c.args.classes.now in
    let a = subst (λ x. Emits k (view_expr x) c.args.out.now c.expression-in-Length.new.out) c.deref-in-Length.ensures c.in_ok-expression-in-Length.ensures in
    subst (λ x. OnOk c.put-in-Length.result (Emits k (view_expr x) c.args.out.now c.put-in-Length.new.out)) (sym c.in-Length.is)
    (on_ok_weaker c.put-in-Length.result (one_operand k (view_expr c.in-Length.array.value) a) c.put-in-Length.ensures)

pub expression-returns-in_ok-expression-in-Array : goal.expression-returns-in_ok-expression-in-Array
expression-returns-in_ok-expression-in-Array t c =
    let k = c.args.classes.now in
    let a = subst (λ x. Emits k (view_expr x) c.args.out.now c.expression-in-Array.new.out) c.deref-in-Array.ensures c.in_ok-expression-in-Array.ensures in
    subst (λ x. OnOk c.put-in-Array.result (Emits k (view_expr x) c.args.out.now c.put-in-Array.new.out)) (sym c.in-Array.is)
    (on_ok_weaker c.put-in-Array.result (one_operand k (view_expr c.in-Array.size.value) a) c.put-in-Array.ensures)

pub expression-returns-in_ok-expression-in-Elem-2 : goal.expression-returns-in_ok-expression-in-Elem-2
expression-returns-in_ok-expression-in-Elem-2 t c =
    let k = c.args.classes.now in
    let a = subst (λ x. Emits k (view_expr x) c.args.out.now c.expression-in-Elem.new.out) c.deref-in-Elem.ensures c.in_ok-expression-in-Elem.ensures in
    let b = subst (λ x. Emits k (view_expr x) c.expression-in-Elem.new.out c.expression-in-Elem-2.new.out) c.deref-in-Elem-2.ensures c.in_ok-expression-in-Elem-2.ensures in
    subst (λ x. OnOk c.put-in-Elem.result (Emits k (view_expr x) c.args.out.now c.put-in-Elem.new.out)) (sym c.in-Elem.is)
    (on_ok_weaker c.put-in-Elem.result (two_operands k (view_expr c.in-Elem.array.value) (view_expr c.in-Elem.index.value) a b) c.put-in-Elem.ensures)

pub expression-returns-in_ok-expression-in-Calculates-2 : goal.expression-returns-in_ok-expression-in-Calculates-2
expression-returns-in_ok-expression-in-Calculates-2 t c =
    let k = c.args.classes.now in
    let a = subst (λ x. Emits k (view_expr x) c.args.out.now c.expression-in-Calculates.new.out) c.deref-in-Calculates.ensures c.in_ok-expression-in-Calculates.ensures in
    let b = subst (λ x. Emits k (view_expr x) c.expression-in-Calculates.new.out c.expression-in-Calculates-2.new.out) c.deref-in-Calculates-2.ensures c.in_ok-expression-in-Calculates-2.ensures in
    subst (λ x. OnOk c.put-in-Calculates.result (Emits k (view_expr x) c.args.out.now c.put-in-Calculates.new.out)) (sym c.in-Two.is)
    (on_ok_weaker c.put-in-Calculates.result (calculated k c.in-Two.op (view_expr c.in-Two.left.value) (view_expr c.in-Two.right.value) c.in-Calculates.ensures a b) c.put-in-Calculates.ensures)

pub expression-returns-in_ok-put-in-Decides-3 : goal.expression-returns-in_ok-put-in-Decides-3
expression-returns-in_ok-put-in-Decides-3 t c =
    let k = c.args.classes.now in
    let x = view_expr c.in-Two.left.value in
    let y = view_expr c.in-Two.right.value in
    let value = c.in-Decides.value in
    let a = subst (λ e. Emits k (view_expr e) c.args.out.now c.expression-in-Decides.new.out) c.deref-in-Decides.ensures c.in_ok-expression-in-Decides.ensures in
    let b = subst (λ e. Emits k (view_expr e) c.put-in-Decides.new.out c.expression-in-Decides-2.new.out) c.deref-in-Decides-2.ensures c.in_ok-expression-in-Decides-2.ensures in
    let jump = subst (λ i. EmitsOne i nowhere c.expression-in-Decides.new.out c.put-in-Decides.new.out) c.jump_where.ensures c.in_ok-put-in-Decides.ensures in
    let last = c.write_back-in-Decides.ensures ∙ ap (written c.write_back.new.out c.position-test.result) c.jump_where-in-Decides.ensures in
    let done = shortened k x y value c.in-Two.at c.position-test.result c.position-leap.result c.position-decided.result c.position-end.result a c.position-test.ensures jump b c.position-leap.ensures c.in_ok-put-in-Decides-2.ensures c.position-decided.ensures c.in_ok-put-in-Decides-3.ensures c.position-end.ensures c.write_back.ensures last in
    subst (λ e. Emits k (view_expr e) c.args.out.now c.write_back-in-Decides.new.out) (sym c.in-Two.is)
    (subst (λ o. Emits k (Two c.in-Two.at o x y) c.args.out.now c.write_back-in-Decides.new.out) (sym c.in-Decides.ensures) done)

pub expression-returns-in_ok-count-in-Call : goal.expression-returns-in_ok-count-in-Call
expression-returns-in_ok-count-in-Call t c =
    let k = c.args.classes.now in
    let call = c.in-Call in
    let x = view_expr call.object.value in
    let args = expr_views call.args.items NoArg in
    let n = c.in_ok-count-in-Call.count in
    let a = subst (λ e. Emits k (view_expr e) c.args.out.now c.expression-in-Call.new.out) c.deref-in-Call.ensures c.in_ok-expression-in-Call.ensures in
    let b = subst (λ es. EmitsAll k (expr_views es NoArg) c.expression-in-Call.new.out c.arguments.new.out) c.deref-in-Call-2.ensures.value c.in_ok-count-in-Call.ensures.emitted in
    let same : n ≡ count args = c.in_ok-count-in-Call.ensures.counted ∙ ap (λ es. count (expr_views es NoArg)) c.deref-in-Call-2.ensures.value in
    let goes = called k x args call.class call.method same a b in
    subst (λ e. OnOk c.put-in-Call.result (Emits k (view_expr e) c.args.out.now c.put-in-Call.new.out)) (sym call.is)
    (subst (λ z. OnOk c.put-in-Call.result (Emits k z c.args.out.now c.put-in-Call.new.out)) (sym (view_call call.at call.object call.class call.method call.args))
    (on_ok_weaker c.put-in-Call.result goes c.put-in-Call.ensures))

pub expression-returns-in_ok-tweak_all-in-Make : goal.expression-returns-in_ok-tweak_all-in-Make
expression-returns-in_ok-tweak_all-in-Make t c =
    let k = c.args.classes.now in
    let make = c.in-Make in
    let args = expr_views make.args.items NoArg in
    let n = c.in_ok-count-in-Make.count in
    let a = subst (λ es. EmitsAll k (expr_views es NoArg) c.args.out.now c.arguments-in-Make.new.out) c.deref-in-Make.ensures.value c.in_ok-count-in-Make.ensures.emitted in
    let same : n ≡ count args = c.in_ok-count-in-Make.ensures.counted ∙ ap (λ es. count (expr_views es NoArg)) c.deref-in-Make.ensures.value in
    let b = subst (λ ts. EmitsTweaks ts c.put-in-Make.new.out c.tweak_all.new.out) c.deref-in-Make-2.ensures.value c.in_ok-tweak_all-in-Make.ensures in
    let goes = made k args make.tweaks.items make.class n same a c.in_ok-put-in-Make.ensures b in
    subst (λ e. OnOk c.construct.result (Emits k (view_expr e) c.args.out.now c.construct.new.out)) (sym make.is)
    (subst (λ z. OnOk c.construct.result (Emits k z c.args.out.now c.construct.new.out)) (sym (view_make make.at make.class make.args make.tweaks))
    (on_ok_weaker c.construct.result goes c.construct.ensures))

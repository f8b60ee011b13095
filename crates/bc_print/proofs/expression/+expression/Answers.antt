use Rattle.std.proofs.Common.{ap, ◌∙◌, sym, append_assoc}
use Rattle.bc_data.specs.View.{view, views, onto}
use Rattle.bc_data.specs.SourceTree.{Call, Make, NoArg, Empty}
use Rattle.bc_print.specs.Canonical.{expression_text}
use Rattle.bc_print.proofs.Lists.{argument_next, then_two, ok_then, ok_then_two}
use Rattle.bc_print.proofs.Rows.{view_call, view_make}
use Rattle.bc_print.proofs.expression.+expression.Goals as goal

pub print_arguments-loop-i-preserved : goal.print_arguments-loop-i-preserved
print_arguments-loop-i-preserved t c =
    then_two _ _ _ _ _ _ _ _ c.loop-i.invariant c.in_ok-print_separator.ensures c.in_ok-print_expression.ensures (argument_next c.args.args.now c.loop-i.i c.index-args-i.result c.loop-i-test.true c.index-args-i.is)

pub print_expression-returns-in_ok-print_between-in-Call :
    goal.print_expression-returns-in_ok-print_between-in-Call
print_expression-returns-in_ok-print_between-in-Call t c =
    let w = c.in-Call in
    let e = ap (λ v. expression_text (view v)) w.is ∙ ap expression_text (view_call w.field-0 w.object w.x w.args) ∙ ap (λ v. expression_text (Call w.field-0 (view v) w.x (views w.args.items NoArg))) (sym c.deref-in-Call.ensures) ∙ ap (λ vs. expression_text (Call w.field-0 (view c.deref-in-Call.result.now) w.x (views vs NoArg))) (sym c.as_slice.ensures.value) in
    ok_then _ _ _ _ _ _ _ c.in_ok-print_between-in-Call.ensures c.print_call.ensures (e ∙ simp append_assoc)

pub print_expression-returns-in_ok-print_call-in-Make :
    goal.print_expression-returns-in_ok-print_call-in-Make
print_expression-returns-in_ok-print_call-in-Make t c =
    let w = c.in-Make in
    let e = ap (λ v. expression_text (view v)) w.is ∙ ap expression_text (view_make w.field-0 w.x w.args w.tweaks) ∙ ap (λ vs. expression_text (Make w.field-0 w.x (views vs NoArg) (onto w.tweaks.items Empty))) (sym c.as_slice-in-Make.ensures.value) ∙ ap (λ vs. expression_text (Make w.field-0 w.x (views c.as_slice-in-Make.result.now NoArg) (onto vs Empty))) (sym c.as_slice-in-Make-2.ensures.value) in
    ok_then_two _ _ _ _ _ _ _ _ _ c.in_ok-extend_from_slice-in-Make.ensures.ok c.in_ok-print_call-in-Make.ensures c.print_tweaks.ensures (e ∙ simp append_assoc)

use Rattle.std.proofs.Common.{◌≡◌, ap, ◌∙◌, sym, refl, append_assoc}
use Rattle.bc_data.specs.SourceTree.{Nothing, Block, While, If, IfElse}
use Rattle.bc_data.specs.View.{view, view_stat, stat_views}
use Rattle.bc_data.specs.declared.tree.StatText.TheVariants as stat
use Rattle.bc_print.specs.Canonical.{statement_text, deeper}
use Rattle.bc_print.proofs.Lists.{statement_next, then_one, then_two, ok_then_two}
use Rattle.bc_print.proofs.Rows.{view_block, view_while, view_if_alone, view_if_else}
use Rattle.bc_print.proofs.statement.+statement.Goals as goal

pub print_body-loop-statement-preserved : goal.print_body-loop-statement-preserved
print_body-loop-statement-preserved t c =
    let inner : c.as_slice.result.now ≡ deeper c.args.margin.now = cc c.in_ok-inner.ensures in
    let written = rw inner at c.in_ok-print_statement.ensures in
    then_one _ _ _ _ _ _ c.loop-statement.invariant written (statement_next (deeper c.args.margin.now) c.args.body.now c.loop-statement.statement-index c.statement-item.result c.loop-statement-test.true c.statement-item.is)

pub print_statement-returns-in_ok-print_body-in-Block :
    goal.print_statement-returns-in_ok-print_body-in-Block
print_statement-returns-in_ok-print_body-in-Block t c =
    let w = c.in-Block in
    let margin = c.args.margin.now in
    let e = ap (λ v. statement_text margin (view_stat v)) w.is ∙ ap (statement_text margin) (view_block w.field-0 w.body) ∙ ap (λ vs. statement_text margin (Block w.field-0 (stat_views vs Nothing))) (sym c.as_slice.ensures.value) in
    ok_then_two _ _ _ _ _ _ _ _ _ c.in_ok-print_line-in-Block.ensures c.in_ok-print_body-in-Block.ensures c.print_line-in-Block.ensures (e ∙ simp append_assoc)

pub print_statement-returns-in_ok-print_body-in-While :
    goal.print_statement-returns-in_ok-print_body-in-While
print_statement-returns-in_ok-print_body-in-While t c =
    let w = c.in-While in
    let margin = c.args.margin.now in
    let e = ap (λ v. statement_text margin (view_stat v)) w.is ∙ ap (statement_text margin) (view_while w.field-0 w.test w.body) ∙ ap (λ vs. statement_text margin (While w.field-0 (view w.test) (stat_views vs Nothing))) (sym c.as_slice-in-While.ensures.value) in
    ok_then_two _ _ _ _ _ _ _ _ _ c.in_ok-print_value_line-in-While.ensures c.in_ok-print_body-in-While.ensures c.print_line-in-While.ensures (e ∙ simp append_assoc)

pub print_statement-returns-in-None : goal.print_statement-returns-in-None
print_statement-returns-in-None t c =
    let w = c.in-If in
    let margin = c.args.margin.now in
    let e = ap (λ v. statement_text margin (view_stat v)) (w.is ∙ ap (stat.If w.field-0 w.test w.body) c.in-None.is) ∙ ap (statement_text margin) (view_if_alone w.field-0 w.test w.body) ∙ ap (λ vs. statement_text margin (If w.field-0 (view w.test) (stat_views vs Nothing))) (sym c.as_slice-in-If.ensures.value) in
    ok_then_two _ _ _ _ _ _ _ _ _ c.in_ok-print_value_line-in-If.ensures c.in_ok-print_body-in-If.ensures c.print_line-in-None.ensures (e ∙ simp append_assoc)

pub print_statement-returns-in_ok-print_body-in-Some :
    goal.print_statement-returns-in_ok-print_body-in-Some
print_statement-returns-in_ok-print_body-in-Some t c =
    let w = c.in-If in
    let other = c.in-Some.other in
    let margin = c.args.margin.now in
    let e = ap (λ v. statement_text margin (view_stat v)) (w.is ∙ ap (stat.If w.field-0 w.test w.body) c.in-Some.is) ∙ ap (statement_text margin) (view_if_else w.field-0 w.test w.body other) ∙ ap (λ vs. statement_text margin (IfElse w.field-0 (view w.test) (stat_views vs Nothing) (stat_views other.items Nothing))) (sym c.as_slice-in-If.ensures.value) ∙ ap (λ vs. statement_text margin (IfElse w.field-0 (view w.test) (stat_views c.as_slice-in-If.result.now Nothing) (stat_views vs Nothing))) (sym c.as_slice-in-Some.ensures.value) in
    let head = then_two _ _ _ _ _ _ _ _ c.in_ok-print_value_line-in-If.ensures c.in_ok-print_body-in-If.ensures c.in_ok-print_line-in-Some.ensures refl in
    ok_then_two _ _ _ _ _ _ _ _ _ head c.in_ok-print_body-in-Some.ensures c.print_line-in-Some-2.ensures (e ∙ simp append_assoc)

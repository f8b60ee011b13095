use Rattle.std.proofs.Common.{◌≡◌, ◌<◌, ◌+◌, ◌++◌, ◌∷◌, [], length, take, sym, ◌∙◌, ap, subst, arith}
use Rattle.std.proofs.lemmas.List.{take_more}
use Rattle.std.proofs.lemmas.Result.{on_ok_weaker}
use Rattle.bc_data.specs.ProgramView.{program_stat_views, view_expr, view_program_stat}
use Rattle.bc_data.specs.Typed.{Nothing}
use Rattle.bc_gen_stmt.proofs.Laying.{PutsChanges, PutsStatement, PutsStatements, field_emitted, elem_emitted, if_emitted, while_emitted, exit_emitted, one_statement}
use Rattle.bc_gen_stmt.proofs.Rows.{seen_block, seen_if, seen_while}
use Rattle.bc_gen_stmt.proofs.statements.+statements.Goals as goal

pub statement-returns-in_ok-expression-in-SetField : goal.statement-returns-in_ok-expression-in-SetField
statement-returns-in_ok-expression-in-SetField t c =
    let K = c.args.classes.now in
    let s = c.in-SetField in
    on_ok_weaker
    c.value_then-in-SetField.result
    (λ m. subst (λ s. PutsStatement K (view_program_stat s) c.args.out.now c.value_then-in-SetField.new.out) (sym s.is) (field_emitted K s.at s.field (view_expr s.object) (view_expr s.e) _ _ _ c.in_ok-expression-in-SetField.ensures m))
    c.value_then-in-SetField.ensures

pub statement-returns-in_ok-expression-in-SetElem-2 : goal.statement-returns-in_ok-expression-in-SetElem-2
statement-returns-in_ok-expression-in-SetElem-2 t c =
    let K = c.args.classes.now in
    let s = c.in-SetElem in
    on_ok_weaker
    c.value_then-in-SetElem.result
    (λ m. subst (λ s. PutsStatement K (view_program_stat s) c.args.out.now c.value_then-in-SetElem.new.out) (sym s.is) (elem_emitted K s.at (view_expr s.array) (view_expr s.index) (view_expr s.e) _ _ _ _ c.in_ok-expression-in-SetElem.ensures c.in_ok-expression-in-SetElem-2.ensures m))
    c.value_then-in-SetElem.ensures

pub statement-returns-in_ok-statements-in-If-2 : goal.statement-returns-in_ok-statements-in-If-2
statement-returns-in_ok-statements-in-If-2 t c =
    let K = c.args.classes.now in
    let s = c.in-If in
    let seen = ap view_program_stat s.is ∙ seen_if s.test s.body s.other in
    let body = subst (λ l. PutsStatements K (program_stat_views l Nothing) c.put-in-If.new.out c.statements.new.out) c.deref.ensures.value c.in_ok-statements-in-If.ensures in
    let other = subst (λ l. PutsStatements K (program_stat_views l Nothing) c.put-in-If-2.new.out c.statements-in-If.new.out) c.deref-in-If.ensures.value c.in_ok-statements-in-If-2.ensures in
    subst (λ s. PutsStatement K s c.args.out.now c.write_back-in-If.new.out) (sym seen)
    (if_emitted K (view_expr s.test) (program_stat_views s.body.items Nothing) (program_stat_views s.other.items Nothing) _ _ _ _ _ _ _ _ _ _ _ _ c.in_ok-expression-in-If.ensures c.position-jump.ensures c.in_ok-put-in-If.ensures body c.position-leap.ensures c.in_ok-put-in-If-2.ensures c.position-second.ensures other c.position-end.ensures c.write_back.ensures c.write_back-in-If.ensures)

pub statement-returns-in_ok-put-in-While-3 : goal.statement-returns-in_ok-put-in-While-3
statement-returns-in_ok-put-in-While-3 t c =
    let K = c.args.classes.now in
    let s = c.in-While in
    let seen = ap view_program_stat s.is ∙ seen_while s.at s.test s.body in
    let body = subst (λ l. PutsStatements K (program_stat_views l Nothing) c.put-in-While-2.new.out c.statements-in-While.new.out) c.deref-in-While.ensures.value c.in_ok-statements-in-While.ensures in
    subst (λ s. PutsStatement K s c.args.out.now c.write_back-in-While.new.out) (sym seen)
    (while_emitted K s.at (view_expr s.test) (program_stat_views s.body.items Nothing) _ _ _ _ _ _ _ _ _ _ c.position-start.ensures c.in_ok-expression-in-While.ensures c.position-jump-in-While.ensures c.in_ok-put-in-While.ensures c.in_ok-put-in-While-2.ensures body c.in_ok-put-in-While-3.ensures c.position-end-in-While.ensures c.write_back-in-While.ensures)

pub statement-returns-in_ok-put_changes-in-Exit : goal.statement-returns-in_ok-put_changes-in-Exit
statement-returns-in_ok-put_changes-in-Exit t c =
    let K = c.args.classes.now in
    let xs = c.in-Exit.changes.items in
    let changes = subst (λ l. PutsChanges l c.args.out.now c.put_changes.new.out) c.deref-in-Exit.ensures.value c.in_ok-put_changes-in-Exit.ensures in
    on_ok_weaker
    c.put-in-Exit.result
    (λ m. subst (λ s. PutsStatement K (view_program_stat s) c.args.out.now c.put-in-Exit.new.out) (sym c.in-Exit.is) (exit_emitted K xs _ _ _ changes m))
    c.put-in-Exit.ensures

pub statement-returns-in-Block : goal.statement-returns-in-Block
statement-returns-in-Block t c =
    let K = c.args.classes.now in
    let seen = ap view_program_stat c.in-Block.is ∙ seen_block c.in-Block.body in
    on_ok_weaker
    c.statements-in-Block.result
    (λ l. subst (λ s. PutsStatement K s c.args.out.now c.statements-in-Block.new.out) (sym seen) (subst (λ ss. PutsStatements K (program_stat_views ss Nothing) c.args.out.now c.statements-in-Block.new.out) c.deref-in-Block.ensures.value l))
    c.statements-in-Block.ensures

pub statements-loop-s-preserved : goal.statements-loop-s-preserved
statements-loop-s-preserved t c =
    let K = c.args.classes.now in
    let ss = c.args.body.now in
    let i = c.loop-s.s-index in
    let within : i < length ss = omega arith in
    let more : take i ss ++ c.s-item.result ∷ [] ≡ take (i + 1) ss = ap (λ x. take i ss ++ x ∷ []) c.s-item.is ∙ sym (take_more ss i c.s-item.result within) in
    subst (λ l. PutsStatements K (program_stat_views l Nothing) c.args.out.now c.statement.new.out) more (one_statement K (take i ss) c.s-item.result _ _ _ c.loop-s.invariant c.in_ok-statement.ensures)

use Rattle.std.proofs.Common.{◌≡◌, ◌∙◌, ap, sym, subst, ◌≤◌, ◌+◌, ◌-◌, arith}
use Rattle.std.proofs.lemmas.Result.{err_from_is_err_and}
use Rattle.bc_data.specs.Seen.{seen}
use Rattle.bc_data.specs.SourceTree.{Two, height}
use Rattle.bc_data.specs.View.{view}
use Rattle.bc_data.specs.Grammar.{looseness}
use Rattle.bc_law_grammar.specs.Machine.{After, InTwo, Room, levels, run}
use Rattle.bc_law_grammar.proofs.Steps.{looseness_low}
use Rattle.bc_parse_expr.specs.Contract.{Stops, first_kind, reach_of}
use Rattle.bc_parse_expr.proofs.Expressions.{push_seen, end_seen}
use Rattle.bc_parse_expr.proofs.expression.+expr.Goals as goal

pub with_operator-returns-clause-answers : goal.with_operator-returns-clause-answers
with_operator-returns-clause-answers t c = λ st len room.
    let text = c.args.text.now in
    let token = c.in_ok-token.token in
    let a = view c.args.left.tree in
    let b = view c.in_ok-right.right.tree in
    let rest = c.in_ok-right.right.rest.now in
    let level : height a + levels st + 1 ≤ 64 = omega (arith, c.in_ok-check_level.ensures.ok, c.requires.height) in
    let inner : levels (InTwo token.at c.args.op a st) ≡ c.args.base + 1 = omega arith in
    let fits : Room (c.looseness_of.result - 1) (InTwo token.at c.args.op a st) = omega (arith, c.looseness_of.ensures, looseness_low c.args.op) in
    let ends : looseness c.args.op ≤ reach_of rest = omega (arith, c.looseness_of.ensures, c.in_ok-right.ensures.whole) in
    ap (λ ts. run 64 (After a st) (seen text ts)) c.in_ok-token.ensures.ok
    ∙ push_seen text c.args.op token a st c.in_ok-token.behind.now (sym (ap first_kind c.in_ok-token.ensures.ok) ∙ c.requires.op) room level
    ∙ c.in_ok-right.ensures.answers (InTwo token.at c.args.op a st) inner fits
    ∙ end_seen text token.at c.args.op a b st rest ends
    ∙ ap (λ e. run 64 (After (Two token.at c.args.op (view e) b) st) (seen text rest)) (sym c.in_ok-new.ensures.ok)
    ∙ ap (λ e. run 64 (After (Two token.at c.args.op (view c.in_ok-new.field-0.value) (view e)) st) (seen text rest)) (sym c.in_ok-new-2.ensures.ok)

-- the fault of the right operand
pub with_operator-returns-in_err-right-clause-answers : goal.with_operator-returns-in_err-right-clause-answers
with_operator-returns-in_err-right-clause-answers t c = λ st len room.
    let text = c.args.text.now in
    let token = c.in_ok-token.token in
    let a = view c.args.left.tree in
    let level : height a + levels st + 1 ≤ 64 = omega (arith, c.in_ok-check_level.ensures.ok, c.requires.height) in
    let inner : levels (InTwo token.at c.args.op a st) ≡ c.args.base + 1 = omega arith in
    let fits : Room (c.looseness_of.result - 1) (InTwo token.at c.args.op a st) = omega (arith, c.looseness_of.ensures, looseness_low c.args.op) in
    let same =
    ap (λ ts. run 64 (After a st) (seen text ts)) c.in_ok-token.ensures.ok
    ∙ push_seen text c.args.op token a st c.in_ok-token.behind.now (sym (ap first_kind c.in_ok-token.ensures.ok) ∙ c.requires.op) room level in
    let p = err_from_is_err_and c.from_residual-in_err-right.result c.from_residual-in_err-right.ensures.1 in
    rw (p.1, p.2) (subst (λ o. Stops c.in_err-right.field-0.0 o) (sym same) (c.in_err-right.ensures.answers (InTwo token.at c.args.op a st) inner fits))

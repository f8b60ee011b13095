use Rattle.std.proofs.Common.{◌<◌, ◌≡◌, ◌∙◌, ap, sym, subst, ◌∷◌, ◌≤◌, ◌+◌, ◌-◌, arith}
use Rattle.std.proofs.lemmas.Result.{err_from_is_err_and}
use Rattle.bc_data.specs.Seen.{seen}
use Rattle.bc_data.specs.SourceTree.{FlagTwo, guard_height}
use Rattle.bc_data.specs.View.{view_guard}
use Rattle.bc_data.specs.Grammar.{guard_looseness}
use Rattle.bc_law_grammar.specs.Machine.{AfterFlag, InFlagTwo, FlagRoom, levels, run}
use Rattle.bc_parse_expr.specs.Contract.{Stops, first_kind}
use Rattle.bc_parse.specs.Guards.{flag_reach_of, join_of}
use Rattle.bc_parse.proofs.Flags.{push_seen, end_seen, guard_low}
use Rattle.bc_parse.proofs.guard.+guard.Goals as goal

pub with_join-returns-clause-answers : goal.with_join-returns-clause-answers
with_join-returns-clause-answers t c = λ st len room.
    let text = c.args.text.now in
    let token = c.in_ok-token.token in
    let op = join_of c.args.join in
    let a = view_guard c.args.left.tree in
    let b = view_guard c.in_ok-right.right.tree in
    let rest = c.in_ok-right.right.rest.now in
    let level : guard_height a + levels st + 1 ≤ 64 = omega (arith, c.in_ok-check_level.ensures.ok, c.requires.height) in
    let inner : levels (InFlagTwo op a st) ≡ c.args.base + 1 = omega arith in
    let fits : FlagRoom (c.looseness_of.result - 1) (InFlagTwo op a st) = omega (arith, c.looseness_of.ensures, guard_low op) in
    let ends : guard_looseness op ≤ flag_reach_of rest = omega (arith, c.looseness_of.ensures, c.in_ok-right.ensures.whole) in
    ap (λ ts. run 64 (AfterFlag a st) (seen text ts)) c.in_ok-token.ensures.ok
    ∙ push_seen text op token a st c.in_ok-token.behind.now (sym (ap first_kind c.in_ok-token.ensures.ok) ∙ c.requires.join) room level
    ∙ c.in_ok-right.ensures.answers (InFlagTwo op a st) inner fits
    ∙ end_seen text op a b st rest ends
    ∙ ap (λ g. run 64 (AfterFlag g st) (seen text rest)) (sym c.in_ok-joined.ensures.ok)

-- the fault of the right part
pub with_join-returns-in_err-right-clause-answers : goal.with_join-returns-in_err-right-clause-answers
with_join-returns-in_err-right-clause-answers t c = λ st len room.
    let text = c.args.text.now in
    let token = c.in_ok-token.token in
    let op = join_of c.args.join in
    let a = view_guard c.args.left.tree in
    let level : guard_height a + levels st + 1 ≤ 64 = omega (arith, c.in_ok-check_level.ensures.ok, c.requires.height) in
    let inner : levels (InFlagTwo op a st) ≡ c.args.base + 1 = omega arith in
    let fits : FlagRoom (c.looseness_of.result - 1) (InFlagTwo op a st) = omega (arith, c.looseness_of.ensures, guard_low op) in
    let same =
    ap (λ ts. run 64 (AfterFlag a st) (seen text ts)) c.in_ok-token.ensures.ok
    ∙ push_seen text op token a st c.in_ok-token.behind.now (sym (ap first_kind c.in_ok-token.ensures.ok) ∙ c.requires.join) room level in
    let p = err_from_is_err_and c.from_residual-in_err-right.result c.from_residual-in_err-right.ensures.1 in
    rw (p.1, p.2) (subst (λ o. Stops c.in_err-right.field-0.0 o) (sym same) (c.in_err-right.ensures.answers (InFlagTwo op a st) inner fits))

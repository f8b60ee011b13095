use Rattle.std.proofs.Common.{◌≡◌, ◌∙◌, ◌+◌, ◌≤◌, ◌∷◌, ap, sym, subst, refl, arith}
use Rattle.std.proofs.lemmas.Result.{err_from_is_err_and}
use Rattle.bc_data.specs.Seen.{Mark, lexeme, seen}
use Rattle.bc_data.specs.SourceTree.{Statements, Nothing, Then, Block}
use Rattle.bc_data.specs.Grammar.{token}
use Rattle.bc_data.specs.View.{view_stat}
use Rattle.bc_data.specs.declared.token.Sign.TheVariants as sign
use Rattle.bc_law_grammar.specs.Machine.{State, Stack, InBlock, Stats, levels, run}
use Rattle.bc_law_grammar.proofs.Steps.{deep}
use Rattle.bc_parse_expr.specs.Contract.{Stops}
use Rattle.bc_parse_stat.proofs.statement.+stat.Goals as goal

pub block-returns-clause-answers : goal.block-returns-clause-answers
block-returns-clause-answers t c = λ st front len.
    let text = c.args.text.now in
    let token_2 = c.args.token in
    let ts = seen text c.args.tokens.now in
    let onward : Statements → State = λ body. Stats (Then front (Block token_2.at body)) st in
    let inner : Stack = InBlock onward st in
    let level : levels st + 1 ≤ 64 = omega (arith, c.in_ok-check_level.ensures.ok) in
    let depth : levels inner ≡ c.args.base + 1 = omega arith in
    ap (λ k. run 64 (Stats front st) (token (lexeme text token_2.start token_2.end k) token_2.at ∷ ts)) c.requires.brace
    ∙ deep 64 (Stats front st) (Stats Nothing inner) (levels st + 1) (token (Mark sign.OpenBrace) token_2.at) ts refl level
    ∙ c.in_ok-body.ensures.answers inner onward depth refl
    ∙ ap (λ s. run 64 (Stats (Then front s) st) (seen text c.in_ok-body.body.rest.now)) (sym c.new_block.ensures)

-- the fault of the body
pub block-returns-in_err-body-clause-answers : goal.block-returns-in_err-body-clause-answers
block-returns-in_err-body-clause-answers t c = λ st front len.
    let text = c.args.text.now in
    let token_2 = c.args.token in
    let ts = seen text c.args.tokens.now in
    let onward : Statements → State = λ body. Stats (Then front (Block token_2.at body)) st in
    let inner : Stack = InBlock onward st in
    let level : levels st + 1 ≤ 64 = omega (arith, c.in_ok-check_level.ensures.ok) in
    let depth : levels inner ≡ c.args.base + 1 = omega arith in
    let same =
    ap (λ k. run 64 (Stats front st) (token (lexeme text token_2.start token_2.end k) token_2.at ∷ ts)) c.requires.brace
    ∙ deep 64 (Stats front st) (Stats Nothing inner) (levels st + 1) (token (Mark sign.OpenBrace) token_2.at) ts refl level in
    let p = err_from_is_err_and c.from_residual-in_err-body.result c.from_residual-in_err-body.ensures.1 in
    rw (p.1, p.2) (subst (λ o. Stops c.in_err-body.field-0.0 o) (sym same) (c.in_err-body.ensures.answers inner onward depth refl))

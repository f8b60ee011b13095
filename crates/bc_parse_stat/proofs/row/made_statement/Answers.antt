use Rattle.std.proofs.Common.{◌≡◌, ◌∙◌, ◌+◌, ap, sym, subst, arith}
use Rattle.std.proofs.lemmas.Result.{err_from_is_err_and}
use Rattle.bc_data.specs.Seen.{seen}
use Rattle.bc_data.specs.SourceTree.{Expressions, Statements, Then, MakeDo}
use Rattle.bc_data.specs.View.{view}
use Rattle.bc_data.specs.declared.token.Sign.TheVariants as sign
use Rattle.bc_data.specs.declared.tree.Named.{Named}
use Rattle.bc_law_grammar.specs.Machine.{Stack, InMade, State, Never, OnMark, Stats, args_row, tweaks_row, levels, run}
use Rattle.bc_parse_expr.specs.Contract.{Stops}
use Rattle.bc_parse_stat.proofs.Statements.{made_end}
use Rattle.bc_parse_stat.proofs.row.made_statement.Goals as goal

pub returns-in_err-made-clause-answers : goal.returns-in_err-made-clause-answers
returns-in_err-made-clause-answers c = λ st front len.
    let inner : Stack = InMade front st in
    let level : levels inner ≡ c.args.base + 1 = omega arith in
    let same =
    c.in_ok-name.ensures.answers (λ x. OnMark sign.OpenParen (λ _. args_row (λ args. tweaks_row c.args.at x args inner) inner) Never)
    ∙ c.in_ok-open.ensures.answers c.args.text.now (λ _. args_row (λ args. tweaks_row c.args.at c.in_ok-name.name.name args inner) inner) in
    let p = err_from_is_err_and c.from_residual-in_err-made.result c.from_residual-in_err-made.ensures.1 in
    rw (p.1, p.2) (subst (λ o. Stops c.in_err-made.field-0.0 o) (sym same) (c.in_err-made.ensures.answers inner level))

pub returns-in_err-semicolon-clause-answers : goal.returns-in_err-semicolon-clause-answers
returns-in_err-semicolon-clause-answers c = λ st front len.
    let inner : Stack = InMade front st in
    let level : levels inner ≡ c.args.base + 1 = omega arith in
    let e = view c.in_ok-made.made.tree in
    let same =
    c.in_ok-name.ensures.answers (λ x. OnMark sign.OpenParen (λ _. args_row (λ args. tweaks_row c.args.at x args inner) inner) Never)
    ∙ c.in_ok-open.ensures.answers c.args.text.now (λ _. args_row (λ args. tweaks_row c.args.at c.in_ok-name.name.name args inner) inner)
    ∙ c.in_ok-made.ensures.answers inner level
    ∙ made_end c.args.text.now e front st c.in_ok-made.made.rest.now in
    let p = err_from_is_err_and c.from_residual-in_err-semicolon.result c.from_residual-in_err-semicolon.ensures.1 in
    rw (p.1, p.2) (subst (λ o. Stops c.in_err-semicolon.field-0.0 o) (sym same) (c.in_err-semicolon.ensures.answers c.args.text.now (λ _. Stats (Then front (MakeDo e)) st)))

pub returns-clause-answers : goal.returns-clause-answers
returns-clause-answers c = λ st front len.
    let inner : Stack = InMade front st in
    let level : levels inner ≡ c.args.base + 1 = omega arith in
    let e = view c.in_ok-made.made.tree in
    c.in_ok-name.ensures.answers (λ x. OnMark sign.OpenParen (λ _. args_row (λ args. tweaks_row c.args.at x args inner) inner) Never)
    ∙ c.in_ok-open.ensures.answers c.args.text.now (λ _. args_row (λ args. tweaks_row c.args.at c.in_ok-name.name.name args inner) inner)
    ∙ c.in_ok-made.ensures.answers inner level
    ∙ made_end c.args.text.now e front st c.in_ok-made.made.rest.now
    ∙ c.in_ok-semicolon.ensures.answers c.args.text.now (λ _. Stats (Then front (MakeDo e)) st)

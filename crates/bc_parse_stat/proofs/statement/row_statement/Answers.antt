use Rattle.std.proofs.Common.{◌≡◌, ◌∙◌, ◌+◌, ◌∷◌, ap, sym, subst, refl, arith}
use Rattle.bc_data.specs.Seen.{Keyword, seen}
use Rattle.bc_data.specs.SourceTree.{Empty, Then, Assert}
use Rattle.bc_data.specs.Grammar.{token}
use Rattle.bc_data.specs.View.{view_stat}
use Rattle.bc_data.specs.declared.token.Word.TheVariants as word
use Rattle.bc_data.specs.declared.token.Sign.TheVariants as sign
use Rattle.bc_law_grammar.specs.Machine.{State, Never, OnMark, Stats, Printing, print_ends, test_row, levels, run}
use Rattle.bc_law_grammar.proofs.Steps.{deep}
use Rattle.bc_parse_expr.specs.Contract.{Answers}
use Rattle.bc_parse_stat.proofs.statement.row_statement.Goals as goal

pub returns-in_ok-check_level-in-Print-clause-answers : goal.returns-in_ok-check_level-in-Print-clause-answers
returns-in_ok-check_level-in-Print-clause-answers c = λ st front len.
    let ts = seen c.args.text.now c.args.tokens.now in
    let same =
    ap (λ k. run 64 (Stats front st) (token (Keyword k) c.args.at ∷ ts)) c.in-Print.is
    ∙ deep 64 (Stats front st) (OnMark sign.OpenParen (λ _. Printing Empty (print_ends c.args.at front st) st) Never) (levels st + 1) (token (Keyword word.Print) c.args.at) ts refl (omega (arith, c.in_ok-check_level-in-Print.ensures.ok)) in
    subst (λ o. Answers c.print_statement.result (λ r. run 64 (Stats (Then front (view_stat r.tree)) st) (seen c.args.text.now r.rest.now)) o) (sym same) (c.print_statement.ensures.answers st front len)

pub returns-in_ok-check_level-in-Assert-clause-answers : goal.returns-in_ok-check_level-in-Assert-clause-answers
returns-in_ok-check_level-in-Assert-clause-answers c = λ st front len.
    let ts = seen c.args.text.now c.args.tokens.now in
    let same =
    ap (λ k. run 64 (Stats front st) (token (Keyword k) c.args.at ∷ ts)) c.in-Assert.is
    ∙ deep 64 (Stats front st) (test_row (λ e. OnMark sign.Semicolon (λ _. Stats (Then front (Assert c.args.at e)) st) Never) st) (levels st + 1) (token (Keyword word.Assert) c.args.at) ts refl (omega (arith, c.in_ok-check_level-in-Assert.ensures.ok)) in
    subst (λ o. Answers c.assert_statement.result (λ r. run 64 (Stats (Then front (view_stat r.tree)) st) (seen c.args.text.now r.rest.now)) o) (sym same) (c.assert_statement.ensures.answers st front len)

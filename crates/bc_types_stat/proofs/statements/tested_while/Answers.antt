use Rattle.std.proofs.Common.{◌∙◌, ap, sym}
use Rattle.bc_types_rules.specs.Got.{Gives, Mismatch, ask, ◌>>=◌}
use Rattle.bc_data.specs.Typed as typed
use Rattle.bc_data.specs.ProgramView.{program_stat_views, view_expr}
use Rattle.bc_types_stat.proofs.Rows.{seen_while}
use Rattle.bc_types_stat.proofs.statements.tested_while.Goals as goal

pub returns : goal.returns
returns c =
    let a = c.args in
    let d = typed.While a.at (view_expr a.test.code) (program_stat_views a.body.items typed.Nothing) in
    ap (λ b. ask b Mismatch a.test_at >>= λ _. Gives d) (sym c.is_bool.ensures) ∙ ap (λ g. g >>= λ _. Gives d) c.in_ok-ask_for.ensures.answers ∙ ap Gives (sym (seen_while a.at a.test.code a.body))

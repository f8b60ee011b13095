use Rattle.std.proofs.Common.{sym, subst}
use Rattle.std.proofs.lemmas.Result.{err_from_is_err_and}
use Rattle.bc_data.specs.SourceTree.{Empty}
use Rattle.bc_data.specs.View.{onto_by, view_item}
use Rattle.bc_types_rules.specs.Got.{Gives, ◌>>=◌}
use Rattle.bc_data.specs.Typed as typed
use Rattle.bc_names.specs.Answers.{Stops}
use Rattle.bc_types_expr.specs.Contexts.{context_of}
use Rattle.bc_types_stat.specs.Bodies.{printed_seen, stated}
use Rattle.bc_types_stat.proofs.Printing.{print_gives, print_is, print_misfit}
use Rattle.bc_types_stat.proofs.Chains.{stops_then}
use Rattle.bc_types_stat.proofs.print.print.Goals as goal

pub returns-in_err-printed : goal.returns-in_err-printed
returns-in_err-printed c =
    let a = c.args in
    let p = err_from_is_err_and c.from_residual.result c.from_residual.ensures.1 in
    rw (p.1, p.2) (subst (Stops c.in_err-printed.field-0.0) (sym (print_is (context_of a.inside.now) a.scope.now a.at (onto_by view_item a.items.now Empty))) (stops_then c.in_err-printed.field-0.0 _ (λ g. g >>= λ ps. Gives (stated (typed.Print a.at ps) a.scope.now)) c.in_err-printed.ensures))

pub returns-in_err-parts : goal.returns-in_err-parts
returns-in_err-parts c =
    let a = c.args in
    let p = err_from_is_err_and c.from_residual-in_err-parts.result c.from_residual-in_err-parts.ensures.1 in
    rw (p.1, p.2) (print_misfit (context_of a.inside.now) a.scope.now a.at (onto_by view_item a.items.now Empty) (printed_seen c.in_ok-printed.printed) c.in_err-parts.field-0.0 c.in_ok-printed.ensures c.in_err-parts.ensures)

pub returns : goal.returns
returns c =
    let a = c.args in
    print_gives (context_of a.inside.now) a.scope.now a.at (onto_by view_item a.items.now Empty) (printed_seen c.in_ok-printed.printed) _ c.in_ok-printed.ensures c.in_ok-parts.ensures

-- The lists that the code's trees hold, seen.
use Rattle.std.proofs.Common.{◌≡◌, ℕ, Vec, Global, refl, ap, ◌∙◌}
use Rattle.std.specs.declared.boxed.Box.{Box}
use mathlib.Core.Former.{Count}
use Rattle.bc_data.specs.declared.run.Place.{Place}
use Rattle.bc_data.specs.declared.program.Tweak.{Tweak}
use Rattle.bc_data.specs.declared.program.Expr.{Expr, Row_of-Expr, end_of-Expr, more_of-Expr, items-the_row-Expr, items_hidden-the_row-Expr-0}
use Rattle.bc_data.specs.declared.program.Expr as code
use Rattle.bc_data.specs.declared.program.Stat.{Stat, Row_of-Stat, end_of-Stat, more_of-Stat, items-the_row-Stat, items_hidden-the_row-Stat-0}
use Rattle.bc_data.specs.declared.program.Stat as stat
use Rattle.bc_data.specs.Typed as typed
use Rattle.bc_data.specs.Typed.{TypedExpressions, NoArg, Arg, Nothing, Then}
use Rattle.bc_data.specs.ProgramView.{view_expr, view_exprs_onto, expr_views, view_program_stat, view_program_stats_onto, program_stat_views}

abbrev arguments_of : Expr → (n : Count) × Row_of-Expr n
arguments_of (code.Call' _ _ _ _ _ _ row) = (_, row)
arguments_of (code.Make' _ _ _ row _) = (_, row)
arguments_of _ = (_, end_of-Expr)

view_arguments : (n : Count) (row : Row_of-Expr n) (front : TypedExpressions) → view_exprs_onto row front ≡ expr_views (items-the_row-Expr n row) front
view_arguments n end_of-Expr front = refl
view_arguments n (more_of-Expr e rest) front = view_arguments _ rest (Arg front (view_expr e))

pub view_call : (at : Place) (o : Box Expr Global) (c m : ℕ) (args : Vec Expr Global) → view_expr (code.Call at o c m args) ≡ typed.Call at (view_expr o.value) c m (expr_views args.items NoArg)
view_call at o c m args =
    let row = arguments_of (code.Call at o c m args) in
    ap (typed.Call at (view_expr o.value) c m) (view_arguments row.0 row.1 NoArg ∙ ap (λ es. expr_views es NoArg) (items_hidden-the_row-Expr-0 args))

pub view_make : (at : Place) (c : ℕ) (args : Vec Expr Global) (tweaks : Vec Tweak Global) → view_expr (code.Make at c args tweaks) ≡ typed.Make at c (expr_views args.items NoArg) tweaks.items
view_make at c args tweaks =
    let row = arguments_of (code.Make at c args tweaks) in
    ap (λ es. typed.Make at c es tweaks.items) (view_arguments row.0 row.1 NoArg ∙ ap (λ es. expr_views es NoArg) (items_hidden-the_row-Expr-0 args))

abbrev body_of : Stat → (n : Count) × Row_of-Stat n
body_of (stat.Block' _ row) = (_, row)
body_of (stat.If' _ _ row _ _) = (_, row)
body_of (stat.While' _ _ _ row) = (_, row)
body_of _ = (_, end_of-Stat)

abbrev other_of : Stat → (n : Count) × Row_of-Stat n
other_of (stat.If' _ _ _ _ row) = (_, row)
other_of _ = (_, end_of-Stat)

view_statements : (n : Count) (row : Row_of-Stat n) (front : typed.TypedStatements) → view_program_stats_onto row front ≡ program_stat_views (items-the_row-Stat n row) front
view_statements n end_of-Stat front = refl
view_statements n (more_of-Stat s rest) front = view_statements _ rest (Then front (view_program_stat s))

pub view_block : (body : Vec Stat Global) → view_program_stat (stat.Block body) ≡ typed.Block (program_stat_views body.items Nothing)
view_block body =
    let row = body_of (stat.Block body) in
    ap typed.Block (view_statements row.0 row.1 Nothing ∙ ap (λ ss. program_stat_views ss Nothing) (items_hidden-the_row-Stat-0 body))

pub view_while : (at : Place) (test : Expr) (body : Vec Stat Global) → view_program_stat (stat.While at test body) ≡ typed.While at (view_expr test) (program_stat_views body.items Nothing)
view_while at test body =
    let row = body_of (stat.While at test body) in
    ap (typed.While at (view_expr test)) (view_statements row.0 row.1 Nothing ∙ ap (λ ss. program_stat_views ss Nothing) (items_hidden-the_row-Stat-0 body))

pub view_if : (test : Expr) (body other : Vec Stat Global) → view_program_stat (stat.If test body other) ≡ typed.If (view_expr test) (program_stat_views body.items Nothing) (program_stat_views other.items Nothing)
view_if test body other =
    let row = body_of (stat.If test body other) in
    let behind = other_of (stat.If test body other) in
    ap (λ ss. typed.If (view_expr test) ss (view_program_stats_onto behind.1 Nothing)) (view_statements row.0 row.1 Nothing ∙ ap (λ ss. program_stat_views ss Nothing) (items_hidden-the_row-Stat-0 body))
    ∙ ap (typed.If (view_expr test) (program_stat_views body.items Nothing)) (view_statements behind.0 behind.1 Nothing ∙ ap (λ ss. program_stat_views ss Nothing) (items_hidden-the_row-Stat-0 other))

-- The statements that a program's trees hold, seen.
use Rattle.std.proofs.Common.{◌≡◌, List, [], ◌∷◌, ◌++◌, Vec, Global, refl, ap, ◌∙◌}
use mathlib.Core.Former.{Count}
use Rattle.bc_data.specs.declared.run.Place.{Place}
use Rattle.bc_data.specs.declared.program.Expr.{Expr}
use Rattle.bc_data.specs.declared.program.Stat.{Stat, Row_of-Stat, end_of-Stat, more_of-Stat, items-the_row-Stat, items_hidden-the_row-Stat-0}
use Rattle.bc_data.specs.declared.program.Stat as stat
use Rattle.bc_data.specs.Typed as typed
use Rattle.bc_data.specs.ProgramView.{view_expr, view_program_stat, view_program_stats_onto, program_stat_views}

abbrev body_of : Stat → (n : Count) × Row_of-Stat n
body_of (stat.Block' _ row) = (_, row)
body_of (stat.If' _ _ row _ _) = (_, row)
body_of (stat.While' _ _ _ row) = (_, row)
body_of _ = (_, end_of-Stat)

abbrev other_of : Stat → (n : Count) × Row_of-Stat n
other_of (stat.If' _ _ _ _ row) = (_, row)
other_of _ = (_, end_of-Stat)

view_row : (n : Count) (row : Row_of-Stat n) (front : typed.TypedStatements) → view_program_stats_onto row front ≡ program_stat_views (items-the_row-Stat n row) front
view_row n end_of-Stat front = refl
view_row n (more_of-Stat s rest) front = view_row _ rest (typed.Then front (view_program_stat s))

pub seen_block : (body : Vec Stat Global) → view_program_stat (stat.Block body) ≡ typed.Block (program_stat_views body.items typed.Nothing)
seen_block body =
    let row = body_of (stat.Block body) in
    ap typed.Block (view_row row.0 row.1 typed.Nothing ∙ ap (λ ss. program_stat_views ss typed.Nothing) (items_hidden-the_row-Stat-0 body))

pub seen_while : (at : Place) (test : Expr) (body : Vec Stat Global) → view_program_stat (stat.While at test body) ≡ typed.While at (view_expr test) (program_stat_views body.items typed.Nothing)
seen_while at test body =
    let row = body_of (stat.While at test body) in
    ap (typed.While at (view_expr test)) (view_row row.0 row.1 typed.Nothing ∙ ap (λ ss. program_stat_views ss typed.Nothing) (items_hidden-the_row-Stat-0 body))

pub seen_if : (test : Expr) (body other : Vec Stat Global) → view_program_stat (stat.If test body other) ≡ typed.If (view_expr test) (program_stat_views body.items typed.Nothing) (program_stat_views other.items typed.Nothing)
seen_if test body other =
    let row = body_of (stat.If test body other) in
    let behind = other_of (stat.If test body other) in
    ap (λ ss. typed.If (view_expr test) ss (view_program_stats_onto behind.1 typed.Nothing)) (view_row row.0 row.1 typed.Nothing ∙ ap (λ ss. program_stat_views ss typed.Nothing) (items_hidden-the_row-Stat-0 body))
    ∙ ap (typed.If (view_expr test) (program_stat_views body.items typed.Nothing)) (view_row behind.0 behind.1 typed.Nothing ∙ ap (λ ss. program_stat_views ss typed.Nothing) (items_hidden-the_row-Stat-0 other))

-- statements, with one more at the end
pub views_push : (ss : List Stat) (s : Stat) (front : typed.TypedStatements) → program_stat_views (ss ++ s ∷ []) front ≡ typed.Then (program_stat_views ss front) (view_program_stat s)
views_push [] s front = refl
views_push (t ∷ ss) s front = views_push ss s (typed.Then front (view_program_stat t))

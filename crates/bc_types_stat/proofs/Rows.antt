-- The lists that the code's trees hold, seen.
use Rattle.std.proofs.Common.{◌≡◌, Some, None, Vec, Global, refl, ap, ◌∙◌}
use mathlib.Core.Former.{Count}
use Rattle.bc_data.specs.SourceTree as source
use Rattle.bc_data.specs.View.{view, view_stat, view_stats_onto, stat_views}
use Rattle.bc_data.specs.declared.run.Place.{Place}
use Rattle.bc_data.specs.declared.tree.ExprText.{ExprText}
use Rattle.bc_data.specs.declared.tree.StatText.{StatText, Row_of-StatText, end_of-StatText, more_of-StatText, Some', items-the_row-StatText, items_hidden-the_row-StatText-0}
use Rattle.bc_data.specs.declared.tree.StatText.TheVariants as stat
use Rattle.bc_data.specs.declared.program.Expr.{Expr}
use Rattle.bc_data.specs.declared.program.Stat.{Stat, Row_of-Stat, end_of-Stat, more_of-Stat, items-the_row-Stat, items_hidden-the_row-Stat-0}
use Rattle.bc_data.specs.declared.program.Stat as code
use Rattle.bc_data.specs.Typed as typed
use Rattle.bc_data.specs.ProgramView.{view_expr, view_program_stat, view_program_stats_onto, program_stat_views}

-- the text's statements
abbrev body_of : StatText → (n : Count) × Row_of-StatText n
body_of (stat.Block' _ _ row) = (_, row)
body_of (stat.If' _ _ _ row _) = (_, row)
body_of (stat.While' _ _ _ row) = (_, row)
body_of _ = (_, end_of-StatText)

abbrev other_of : StatText → (n : Count) × Row_of-StatText n
other_of (stat.If' _ _ _ _ (Some' _ row)) = (_, row)
other_of _ = (_, end_of-StatText)

view_row : (n : Count) (row : Row_of-StatText n) (front : source.Statements) → view_stats_onto row front ≡ stat_views (items-the_row-StatText n row) front
view_row n end_of-StatText front = refl
view_row n (more_of-StatText s rest) front = view_row _ rest (source.Then front (view_stat s))

pub view_block : (at : Place) (body : Vec StatText Global) → view_stat (stat.Block at body) ≡ source.Block at (stat_views body.items source.Nothing)
view_block at body =
    let row = body_of (stat.Block at body) in
    ap (source.Block at) (view_row row.0 row.1 source.Nothing ∙ ap (λ ss. stat_views ss source.Nothing) (items_hidden-the_row-StatText-0 body))

pub view_while : (at : Place) (test : ExprText) (body : Vec StatText Global) → view_stat (stat.While at test body) ≡ source.While at (view test) (stat_views body.items source.Nothing)
view_while at test body =
    let row = body_of (stat.While at test body) in
    ap (source.While at (view test)) (view_row row.0 row.1 source.Nothing ∙ ap (λ ss. stat_views ss source.Nothing) (items_hidden-the_row-StatText-0 body))

pub view_if : (at : Place) (test : ExprText) (body : Vec StatText Global) → view_stat (stat.If at test body None) ≡ source.If at (view test) (stat_views body.items source.Nothing)
view_if at test body =
    let row = body_of (stat.If at test body None) in
    ap (source.If at (view test)) (view_row row.0 row.1 source.Nothing ∙ ap (λ ss. stat_views ss source.Nothing) (items_hidden-the_row-StatText-0 body))

pub view_if_else : (at : Place) (test : ExprText) (body other : Vec StatText Global) → view_stat (stat.If at test body (Some other)) ≡ source.IfElse at (view test) (stat_views body.items source.Nothing) (stat_views other.items source.Nothing)
view_if_else at test body other =
    let row = body_of (stat.If at test body (Some other)) in
    let behind = other_of (stat.If at test body (Some other)) in
    ap (λ ss. source.IfElse at (view test) ss (view_stats_onto behind.1 source.Nothing)) (view_row row.0 row.1 source.Nothing ∙ ap (λ ss. stat_views ss source.Nothing) (items_hidden-the_row-StatText-0 body))
    ∙ ap (source.IfElse at (view test) (stat_views body.items source.Nothing)) (view_row behind.0 behind.1 source.Nothing ∙ ap (λ ss. stat_views ss source.Nothing) (items_hidden-the_row-StatText-0 other))

-- the code's statements
abbrev codes_of : Stat → (n : Count) × Row_of-Stat n
codes_of (code.Block' _ row) = (_, row)
codes_of (code.If' _ _ row _ _) = (_, row)
codes_of (code.While' _ _ _ row) = (_, row)
codes_of _ = (_, end_of-Stat)

abbrev other_codes_of : Stat → (n : Count) × Row_of-Stat n
other_codes_of (code.If' _ _ _ _ row) = (_, row)
other_codes_of _ = (_, end_of-Stat)

view_codes_row : (n : Count) (row : Row_of-Stat n) (front : typed.TypedStatements) → view_program_stats_onto row front ≡ program_stat_views (items-the_row-Stat n row) front
view_codes_row n end_of-Stat front = refl
view_codes_row n (more_of-Stat s rest) front = view_codes_row _ rest (typed.Then front (view_program_stat s))

pub seen_block : (body : Vec Stat Global) → view_program_stat (code.Block body) ≡ typed.Block (program_stat_views body.items typed.Nothing)
seen_block body =
    let row = codes_of (code.Block body) in
    ap typed.Block (view_codes_row row.0 row.1 typed.Nothing ∙ ap (λ ss. program_stat_views ss typed.Nothing) (items_hidden-the_row-Stat-0 body))

pub seen_while : (at : Place) (test : Expr) (body : Vec Stat Global) → view_program_stat (code.While at test body) ≡ typed.While at (view_expr test) (program_stat_views body.items typed.Nothing)
seen_while at test body =
    let row = codes_of (code.While at test body) in
    ap (typed.While at (view_expr test)) (view_codes_row row.0 row.1 typed.Nothing ∙ ap (λ ss. program_stat_views ss typed.Nothing) (items_hidden-the_row-Stat-0 body))

pub seen_if : (test : Expr) (body other : Vec Stat Global) → view_program_stat (code.If test body other) ≡ typed.If (view_expr test) (program_stat_views body.items typed.Nothing) (program_stat_views other.items typed.Nothing)
seen_if test body other =
    let row = codes_of (code.If test body other) in
    let behind = other_codes_of (code.If test body other) in
    ap (λ ss. typed.If (view_expr test) ss (view_program_stats_onto behind.1 typed.Nothing)) (view_codes_row row.0 row.1 typed.Nothing ∙ ap (λ ss. program_stat_views ss typed.Nothing) (items_hidden-the_row-Stat-0 body))
    ∙ ap (typed.If (view_expr test) (program_stat_views body.items typed.Nothing)) (view_codes_row behind.0 behind.1 typed.Nothing ∙ ap (λ ss. program_stat_views ss typed.Nothing) (items_hidden-the_row-Stat-0 other))

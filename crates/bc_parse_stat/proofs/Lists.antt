-- The lists of the code's statements, seen.
use Rattle.std.proofs.Common.{◌≡◌, ℕ, List, [], ◌∷◌, refl, ap, ◌∙◌}
use Rattle.std.specs.Prelude.{Option, Some, None}
use Rattle.std.specs.declared.vec.Vec.{Vec}
use Rattle.std.specs.declared.alloc.Global.{Global}
use mathlib.Core.Former.{Count}
use Rattle.bc_data.specs.SourceTree as source
use Rattle.bc_data.specs.SourceTree.{Statements, Nothing, Then}
use Rattle.bc_data.specs.View.{view, view_stat, view_stats_onto, stat_views}
use Rattle.bc_data.specs.declared.run.Place.{Place}
use Rattle.bc_data.specs.declared.tree.ExprText.{ExprText}
use Rattle.bc_data.specs.declared.tree.StatText.{StatText, Row_of-StatText, end_of-StatText, more_of-StatText, Some', None', items-the_row-StatText, items_hidden-the_row-StatText-0}
use Rattle.bc_data.specs.declared.tree.StatText.TheVariants as stat

abbrev row_of : StatText → (n : Count) × Row_of-StatText n
row_of (stat.Block' _ _ row) = (_, row)
row_of (stat.While' _ _ _ row) = (_, row)
row_of (stat.If' _ _ _ row _) = (_, row)
row_of _ = (_, end_of-StatText)

abbrev other_row : StatText → (n : Count) × Row_of-StatText n
other_row (stat.If' _ _ _ _ (Some' _ row)) = (_, row)
other_row _ = (_, end_of-StatText)

view_items : (n : Count) (row : Row_of-StatText n) (front : Statements) → view_stats_onto row front ≡ stat_views (items-the_row-StatText n row) front
view_items n end_of-StatText front = refl
view_items n (more_of-StatText s rest) front = view_items _ rest (Then front (view_stat s))

pub view_block : (at : Place) (body : Vec StatText Global) → view_stat (stat.Block at body) ≡ source.Block at (stat_views body.items Nothing)
view_block at body =
    let row = row_of (stat.Block at body) in
    ap (λ ps. source.Block at ps) (view_items row.0 row.1 Nothing ∙ ap (λ es. stat_views es Nothing) (items_hidden-the_row-StatText-0 body))

pub view_while : (at : Place) (test : ExprText) (body : Vec StatText Global) → view_stat (stat.While at test body) ≡ source.While at (view test) (stat_views body.items Nothing)
view_while at test body =
    let row = row_of (stat.While at test body) in
    ap (λ ps. source.While at (view test) ps) (view_items row.0 row.1 Nothing ∙ ap (λ es. stat_views es Nothing) (items_hidden-the_row-StatText-0 body))

pub view_if : (at : Place) (test : ExprText) (body : Vec StatText Global) → view_stat (stat.If at test body None) ≡ source.If at (view test) (stat_views body.items Nothing)
view_if at test body =
    let row = row_of (stat.If at test body None) in
    ap (λ ps. source.If at (view test) ps) (view_items row.0 row.1 Nothing ∙ ap (λ es. stat_views es Nothing) (items_hidden-the_row-StatText-0 body))

pub view_if_else : (at : Place) (test : ExprText) (body other : Vec StatText Global) → view_stat (stat.If at test body (Some other)) ≡ source.IfElse at (view test) (stat_views body.items Nothing) (stat_views other.items Nothing)
view_if_else at test body other =
    let row = row_of (stat.If at test body (Some other)) in
    let last = other_row (stat.If at test body (Some other)) in
    ap (λ ps. source.IfElse at (view test) ps (view_stats_onto last.1 Nothing)) (view_items row.0 row.1 Nothing ∙ ap (λ es. stat_views es Nothing) (items_hidden-the_row-StatText-0 body))
    ∙ ap (λ ps. source.IfElse at (view test) (stat_views body.items Nothing) ps) (view_items last.0 last.1 Nothing ∙ ap (λ es. stat_views es Nothing) (items_hidden-the_row-StatText-0 other))

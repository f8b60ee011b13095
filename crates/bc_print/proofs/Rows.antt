-- The lists that the code's trees hold, seen.
use Rattle.std.proofs.Common.{◌≡◌, Some, None, refl, ap, ◌∙◌}
use Rattle.std.specs.declared.vec.Vec.{Vec}
use Rattle.std.specs.declared.boxed.Box.{Box}
use Rattle.std.specs.declared.alloc.Global.{Global}
use mathlib.Core.Former.{Count}
use Rattle.bc_data.specs.SourceTree as source
use Rattle.bc_data.specs.SourceTree.{Expression, Expressions, NoArg, Arg, Empty, Statements, Nothing, Then}
use Rattle.bc_data.specs.View.{view, view_onto, views, onto, view_stat, view_stats_onto, stat_views}
use Rattle.bc_data.specs.declared.run.Place.{Place}
use Rattle.bc_data.specs.declared.tree.Named.{Named}
use Rattle.bc_data.specs.declared.tree.ActionText.{ActionText}
use Rattle.bc_data.specs.declared.tree.ExprText.{ExprText, Row_of-ExprText, end_of-ExprText, more_of-ExprText, items-the_row-ExprText, items_hidden-the_row-ExprText-0}
use Rattle.bc_data.specs.declared.tree.ExprText.TheVariants as expr
use Rattle.bc_data.specs.declared.tree.StatText.{StatText, Row_of-StatText, end_of-StatText, more_of-StatText, Some', items-the_row-StatText, items_hidden-the_row-StatText-0}
use Rattle.bc_data.specs.declared.tree.StatText.TheVariants as stat

abbrev row_of : ExprText → (n : Count) × Row_of-ExprText n
row_of (expr.Call' _ _ _ _ _ row) = (_, row)
row_of (expr.Make' _ _ _ row _) = (_, row)
row_of _ = (_, end_of-ExprText)

view_items : (n : Count) (row : Row_of-ExprText n) (front : Expressions) → view_onto row front ≡ views (items-the_row-ExprText n row) front
view_items n end_of-ExprText front = refl
view_items n (more_of-ExprText e rest) front = view_items _ rest (Arg front (view e))

pub view_call : (at : Place) (a : Box ExprText Global) (x : Named) (args : Vec ExprText Global) → view (expr.Call at a x args) ≡ source.Call at (view a.value) x (views args.items NoArg)
view_call at a x args =
    let row = row_of (expr.Call at a x args) in
    ap (λ ts. source.Call at (view a.value) x ts) (view_items row.0 row.1 NoArg ∙ ap (λ es. views es NoArg) (items_hidden-the_row-ExprText-0 args))

pub view_make : (at : Place) (x : Named) (args : Vec ExprText Global) (tweaks : Vec ActionText Global) → view (expr.Make at x args tweaks) ≡ source.Make at x (views args.items NoArg) (onto tweaks.items Empty)
view_make at x args tweaks =
    let row = row_of (expr.Make at x args tweaks) in
    ap (λ ts. source.Make at x ts (onto tweaks.items Empty)) (view_items row.0 row.1 NoArg ∙ ap (λ es. views es NoArg) (items_hidden-the_row-ExprText-0 args))

abbrev body_of : StatText → (n : Count) × Row_of-StatText n
body_of (stat.Block' _ _ row) = (_, row)
body_of (stat.If' _ _ _ row _) = (_, row)
body_of (stat.While' _ _ _ row) = (_, row)
body_of _ = (_, end_of-StatText)

abbrev other_of : StatText → (n : Count) × Row_of-StatText n
other_of (stat.If' _ _ _ _ (Some' _ row)) = (_, row)
other_of _ = (_, end_of-StatText)

view_stats : (n : Count) (row : Row_of-StatText n) (front : Statements) → view_stats_onto row front ≡ stat_views (items-the_row-StatText n row) front
view_stats n end_of-StatText front = refl
view_stats n (more_of-StatText s rest) front = view_stats _ rest (Then front (view_stat s))

pub view_block : (at : Place) (body : Vec StatText Global) → view_stat (stat.Block at body) ≡ source.Block at (stat_views body.items Nothing)
view_block at body =
    let row = body_of (stat.Block at body) in
    ap (source.Block at) (view_stats row.0 row.1 Nothing ∙ ap (λ ss. stat_views ss Nothing) (items_hidden-the_row-StatText-0 body))

pub view_while : (at : Place) (test : ExprText) (body : Vec StatText Global) → view_stat (stat.While at test body) ≡ source.While at (view test) (stat_views body.items Nothing)
view_while at test body =
    let row = body_of (stat.While at test body) in
    ap (source.While at (view test)) (view_stats row.0 row.1 Nothing ∙ ap (λ ss. stat_views ss Nothing) (items_hidden-the_row-StatText-0 body))

pub view_if_alone : (at : Place) (test : ExprText) (body : Vec StatText Global) → view_stat (stat.If at test body None) ≡ source.If at (view test) (stat_views body.items Nothing)
view_if_alone at test body =
    let row = body_of (stat.If at test body None) in
    ap (source.If at (view test)) (view_stats row.0 row.1 Nothing ∙ ap (λ ss. stat_views ss Nothing) (items_hidden-the_row-StatText-0 body))

pub view_if_else : (at : Place) (test : ExprText) (body other : Vec StatText Global) → view_stat (stat.If at test body (Some other)) ≡ source.IfElse at (view test) (stat_views body.items Nothing) (stat_views other.items Nothing)
view_if_else at test body other =
    let row = body_of (stat.If at test body (Some other)) in
    let behind = other_of (stat.If at test body (Some other)) in
    ap (λ ss. source.IfElse at (view test) ss (view_stats_onto behind.1 Nothing)) (view_stats row.0 row.1 Nothing ∙ ap (λ ss. stat_views ss Nothing) (items_hidden-the_row-StatText-0 body)) ∙ ap (λ ss. source.IfElse at (view test) (stat_views body.items Nothing) ss) (view_stats behind.0 behind.1 Nothing ∙ ap (λ ss. stat_views ss Nothing) (items_hidden-the_row-StatText-0 other))

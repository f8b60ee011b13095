-- The lists of the code's expressions, seen.
use Rattle.std.proofs.Common.{◌≡◌, refl, ap, ◌∙◌}
use Rattle.std.specs.declared.vec.Vec.{Vec}
use Rattle.std.specs.declared.boxed.Box.{Box}
use Rattle.std.specs.declared.alloc.Global.{Global}
use mathlib.Core.Former.{Count}
use Rattle.bc_data.specs.SourceTree as source
use Rattle.bc_data.specs.SourceTree.{Expression, Expressions, NoArg, Arg, Empty}
use Rattle.bc_data.specs.View.{view, view_onto, views, onto}
use Rattle.bc_data.specs.declared.run.Place.{Place}
use Rattle.bc_data.specs.declared.tree.Named.{Named}
use Rattle.bc_data.specs.declared.tree.ActionText.{ActionText}
use Rattle.bc_data.specs.declared.tree.ExprText.{ExprText, Row_of-ExprText, end_of-ExprText, more_of-ExprText, items-the_row-ExprText, items_hidden-the_row-ExprText-0}
use Rattle.bc_data.specs.declared.tree.ExprText.TheVariants as expr

abbrev row_of : ExprText → (n : Count) × Row_of-ExprText n
row_of (expr.Call' _ _ _ _ _ row) = (_, row)
row_of (expr.Make' _ _ _ row _) = (_, row)
row_of _ = (_, end_of-ExprText)

view_items : (n : Count) (row : Row_of-ExprText n) (front : Expressions) → view_onto row front ≡ views (items-the_row-ExprText n row) front
view_items n end_of-ExprText front = refl
view_items n (more_of-ExprText e rest) front = view_items _ rest (Arg front (view e))

pub view_call : (at : Place) (a : Box ExprText Global) (x : Named) (args : Vec ExprText Global) → view (expr.Call at a x args) ≡ source.Call at (view a.value) x (views args.items NoArg)
view_call at a x args =
    let row = row_of (expr.Call at a x args) in
    ap (λ ts. source.Call at (view a.value) x ts) (view_items row.0 row.1 NoArg ∙ ap (λ es. views es NoArg) (items_hidden-the_row-ExprText-0 args))

pub view_make : (at : Place) (x : Named) (args : Vec ExprText Global) (tweaks : Vec ActionText Global) → view (expr.Make at x args tweaks) ≡ source.Make at x (views args.items NoArg) (onto tweaks.items Empty)
view_make at x args tweaks =
    let row = row_of (expr.Make at x args tweaks) in
    ap (λ ts. source.Make at x ts (onto tweaks.items Empty)) (view_items row.0 row.1 NoArg ∙ ap (λ es. views es NoArg) (items_hidden-the_row-ExprText-0 args))

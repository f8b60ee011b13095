-- The lists that trees and codes hold, seen, and arguments from left to right.
use Rattle.std.proofs.Common.{◌≡◌, ℕ, List, [], ◌∷◌, refl, ap, ◌∙◌}
use Rattle.std.specs.declared.vec.Vec.{Vec}
use Rattle.std.specs.declared.boxed.Box.{Box}
use Rattle.std.specs.declared.alloc.Global.{Global}
use mathlib.Core.Former.{Count}
use Rattle.bc_data.specs.SourceTree as source
use Rattle.bc_data.specs.SourceTree.{Expression, Expressions, Empty, Sequence}
use Rattle.bc_data.specs.View.{view, view_onto, views, onto, onto_by}
use Rattle.bc_data.specs.declared.run.Place.{Place}
use Rattle.bc_data.specs.declared.tree.Named.{Named}
use Rattle.bc_data.specs.declared.tree.ActionText.{ActionText}
use Rattle.bc_data.specs.declared.tree.ExprText.{ExprText, Row_of-ExprText, end_of-ExprText, more_of-ExprText, items-the_row-ExprText, items_hidden-the_row-ExprText-0}
use Rattle.bc_data.specs.declared.tree.ExprText.TheVariants as expr
use Rattle.bc_data.specs.declared.program.Tweak.{Tweak}
use Rattle.bc_data.specs.declared.program.Expr.{Expr, Row_of-Expr, end_of-Expr, more_of-Expr, items-the_row-Expr, items_hidden-the_row-Expr-0}
use Rattle.bc_data.specs.declared.program.Expr as code
use Rattle.bc_data.specs.Typed as typed
use Rattle.bc_data.specs.Typed.{TypedExpressions, NoArg, Arg}
use Rattle.bc_data.specs.ProgramView.{view_expr, view_exprs_onto, expr_views}

abbrev row_of : ExprText → (n : Count) × Row_of-ExprText n
row_of (expr.Call' _ _ _ _ _ row) = (_, row)
row_of (expr.Make' _ _ _ row _) = (_, row)
row_of _ = (_, end_of-ExprText)

view_items : (n : Count) (row : Row_of-ExprText n) (front : Expressions) → view_onto row front ≡ views (items-the_row-ExprText n row) front
view_items n end_of-ExprText front = refl
view_items n (more_of-ExprText e rest) front = view_items _ rest (source.Arg front (view e))

pub view_call : (at : Place) (a : Box ExprText Global) (x : Named) (args : Vec ExprText Global) → view (expr.Call at a x args) ≡ source.Call at (view a.value) x (views args.items source.NoArg)
view_call at a x args =
    let row = row_of (expr.Call at a x args) in
    ap (λ ts. source.Call at (view a.value) x ts) (view_items row.0 row.1 source.NoArg ∙ ap (λ es. views es source.NoArg) (items_hidden-the_row-ExprText-0 args))

pub view_make : (at : Place) (x : Named) (args : Vec ExprText Global) (tweaks : Vec ActionText Global) → view (expr.Make at x args tweaks) ≡ source.Make at x (views args.items source.NoArg) (onto tweaks.items Empty)
view_make at x args tweaks =
    let row = row_of (expr.Make at x args tweaks) in
    ap (λ ts. source.Make at x ts (onto tweaks.items Empty)) (view_items row.0 row.1 source.NoArg ∙ ap (λ es. views es source.NoArg) (items_hidden-the_row-ExprText-0 args))

abbrev code_row : Expr → (n : Count) × Row_of-Expr n
code_row (code.Call' _ _ _ _ _ _ row) = (_, row)
code_row (code.Make' _ _ _ row _) = (_, row)
code_row _ = (_, end_of-Expr)

code_items : (n : Count) (row : Row_of-Expr n) (front : TypedExpressions) → view_exprs_onto row front ≡ expr_views (items-the_row-Expr n row) front
code_items n end_of-Expr front = refl
code_items n (more_of-Expr e rest) front = code_items _ rest (Arg front (view_expr e))

pub code_call : (at : Place) (o : Box Expr Global) (c m : ℕ) (args : Vec Expr Global) → view_expr (code.Call at o c m args) ≡ typed.Call at (view_expr o.value) c m (expr_views args.items NoArg)
code_call at o c m args =
    let row = code_row (code.Call at o c m args) in
    ap (typed.Call at (view_expr o.value) c m) (code_items row.0 row.1 NoArg ∙ ap (λ es. expr_views es NoArg) (items_hidden-the_row-Expr-0 args))

pub code_make : (at : Place) (c : ℕ) (args : Vec Expr Global) (tweaks : Vec Tweak Global) → view_expr (code.Make at c args tweaks) ≡ typed.Make at c (expr_views args.items NoArg) tweaks.items
code_make at c args tweaks =
    let row = code_row (code.Make at c args tweaks) in
    ap (λ es. typed.Make at c es tweaks.items) (code_items row.0 row.1 NoArg ∙ ap (λ es. expr_views es NoArg) (items_hidden-the_row-Expr-0 args))

pub onto_each : {A : Type 0} (xs : List A) (front : Sequence A) → onto xs front ≡ onto_by (λ x. x) xs front
onto_each [] front = refl
onto_each (x ∷ xs) front = onto_each xs (source.More front x)

-- Rows of operands, as lists, and lists that grow at their end.
use Rattle.std.proofs.Common.{◌≡◌, ℕ, ◌+◌, ◌<◌, List, [], ◌∷◌, ◌++◌, length, take, get_or, refl, sym, ◌∙◌, ap, arith, Box, Vec, Global}
use Rattle.std.proofs.lemmas.List.{take_more}
use mathlib.Core.Former.{Count}
use Rattle.bc_data.specs.declared.run.Place.{Place}
use Rattle.bc_data.specs.declared.program.Tweak.{Tweak}
use Rattle.bc_data.specs.declared.program.Expr.{Expr, Row_of-Expr, end_of-Expr, more_of-Expr, items-the_row-Expr, items_hidden-the_row-Expr-0}
use Rattle.bc_data.specs.declared.program.Expr as code
use Rattle.bc_data.specs.Typed as typed
use Rattle.bc_data.specs.Typed.{TypedExpressions, NoArg, Arg}
use Rattle.bc_data.specs.ProgramView.{view_expr, view_exprs_onto, expr_views}
use Rattle.bc_code.specs.Translation.{Text, behind_each, count, IsTweakCode, AreTweaks}

abbrev arguments_of : Expr → (n : Count) × Row_of-Expr n
arguments_of (code.Call' _ _ _ _ _ _ row) = (_, row)
arguments_of (code.Make' _ _ _ row _) = (_, row)
arguments_of _ = (_, end_of-Expr)

view_arguments : (n : Count) (row : Row_of-Expr n) (front : TypedExpressions) → view_exprs_onto row front ≡ expr_views (items-the_row-Expr n row) front
view_arguments n end_of-Expr front = refl
view_arguments n (more_of-Expr e rest) front = view_arguments _ rest (Arg front (view_expr e))

pub view_call : (at : Place) (o : Box Expr Global) (c m : ℕ) (args : Vec Expr Global) → view_expr (code.Call at o c m args) ≡ typed.Call at (view_expr o.value) c m (expr_views args.items NoArg)
view_call at o c m args =
    let row = arguments_of (code.Call at o c m args) in
    ap (typed.Call at (view_expr o.value) c m) (view_arguments row.0 row.1 NoArg ∙ ap (λ es. expr_views es NoArg) (items_hidden-the_row-Expr-0 args))

pub view_make : (at : Place) (c : ℕ) (args : Vec Expr Global) (tweaks : Vec Tweak Global) → view_expr (code.Make at c args tweaks) ≡ typed.Make at c (expr_views args.items NoArg) tweaks.items
view_make at c args tweaks =
    let row = arguments_of (code.Make at c args tweaks) in
    ap (λ es. typed.Make at c es tweaks.items) (view_arguments row.0 row.1 NoArg ∙ ap (λ es. expr_views es NoArg) (items_hidden-the_row-Expr-0 args))

views-append : (xs : List Expr) (x : Expr) (front : TypedExpressions) → expr_views (xs ++ x ∷ []) front ≡ Arg (expr_views xs front) (view_expr x)
views-append [] x front = refl
views-append (y ∷ xs) x front = views-append xs x (Arg front (view_expr y))

-- one argument more
pub views_more : (es : List Expr) (i : ℕ) (e : Expr) → i < length es → e ≡ get_or es i e → expr_views (take (i + 1) es) NoArg ≡ Arg (expr_views (take i es) NoArg) (view_expr e)
views_more es i e within is =
    ap (λ l. expr_views l NoArg) (take_more es i e within ∙ ap (λ x. take i es ++ x ∷ []) (sym is)) ∙ views-append (take i es) e NoArg

count-views : (es : List Expr) (front : TypedExpressions) → count (expr_views es front) ≡ count front + length es
count-views [] front = omega arith
count-views (e ∷ es) front = omega (arith, count-views es (Arg front (view_expr e)))

pub count_views : (es : List Expr) → count (expr_views es NoArg) ≡ length es
count_views es = omega (arith, count-views es NoArg)

-- one instruction more
pub each_append : {A : Type 0} (xs : List A) (x : A) (p : ℕ) → behind_each (xs ++ x ∷ []) p ≡ behind_each xs p + 1
each_append [] x p = refl
each_append (y ∷ xs) x p = each_append xs x (p + 1)

pub tweaks_append : (T : Text) (ts : List Tweak) (t : Tweak) (p : ℕ) → AreTweaks T p ts → IsTweakCode T (behind_each ts p) t → AreTweaks T p (ts ++ t ∷ [])
tweaks_append T [] t p h i = (i, tt)
tweaks_append T (x ∷ ts) t p h i = (h.0, tweaks_append T ts t (p + 1) h.1 i)

-- Which statements surely leave.
use Rattle.std.proofs.Common.{◌≡◌, suc, ◌≤◌, ◌-◌, ◌&&◌, Some, List, [], ◌∷◌, length, get_or, Vec, Global, refl, ap, sym, ◌∙◌, arith}
use Rattle.bc_data.specs.SourceTree.{Statements, Nothing, Then}
use Rattle.bc_data.specs.View.{view_stat, stat_views}
use Rattle.bc_data.specs.declared.run.Place.{Place}
use Rattle.bc_data.specs.declared.tree.ExprText.{ExprText}
use Rattle.bc_data.specs.declared.tree.StatText.{StatText}
use Rattle.bc_data.specs.declared.tree.StatText.TheVariants as stat
use Rattle.bc_types_rules.specs.Statements.{leaves, all_leave}
use Rattle.bc_types_stat.proofs.Rows.{view_block, view_if_else}

pub leaves_block : (at : Place) (body : Vec StatText Global) → leaves (view_stat (stat.Block at body)) ≡ all_leave (stat_views body.items Nothing)
leaves_block at body = ap leaves (view_block at body)

pub leaves_if : (at : Place) (test : ExprText) (body other : Vec StatText Global) → leaves (view_stat (stat.If at test body (Some other))) ≡ (all_leave (stat_views body.items Nothing) && all_leave (stat_views other.items Nothing))
leaves_if at test body other = ap leaves (view_if_else at test body other)

behind_first : (x y : StatText) (ys : List StatText) (otherwise : StatText) → get_or (x ∷ y ∷ ys) (length (x ∷ y ∷ ys) - 1) otherwise ≡ get_or (y ∷ ys) (length (y ∷ ys) - 1) otherwise
behind_first x y ys otherwise =
    let e : length (x ∷ y ∷ ys) - 1 ≡ suc (length ys) = omega arith in
    let f : length (y ∷ ys) - 1 ≡ length ys = omega arith in
    ap (λ k. get_or (x ∷ y ∷ ys) k otherwise) e ∙ sym (ap (λ k. get_or (y ∷ ys) k otherwise) f)

last_behind : (x : StatText) (xs : List StatText) (front : Statements) (otherwise : StatText) → all_leave (stat_views (x ∷ xs) front) ≡ leaves (view_stat (get_or (x ∷ xs) (length (x ∷ xs) - 1) otherwise))
last_behind x [] front otherwise = refl
last_behind x (y ∷ ys) front otherwise = last_behind y ys (Then front (view_stat x)) otherwise ∙ ap (λ s. leaves (view_stat s)) (sym (behind_first x y ys otherwise))

-- of statements in order the last one decides
pub last_leaves : (xs : List StatText) (otherwise : StatText) → 1 ≤ length xs → all_leave (stat_views xs Nothing) ≡ leaves (view_stat (get_or xs (length xs - 1) otherwise))
last_leaves [] otherwise some = absurd (omega arith)
last_leaves (x ∷ xs) otherwise some = last_behind x xs Nothing otherwise

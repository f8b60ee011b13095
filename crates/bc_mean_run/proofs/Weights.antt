-- What a part of a tree of the code weighs.
use Rattle.std.proofs.Common.{◌≡◌, ℕ, zero, suc, ◌+◌, ◌<◌, ◌≤◌, List, [], ◌∷◌, map, length, get_or, Vec, Global, refl, ap, sym, ◌∙◌, subst, arith}
use Rattle.std.specs.declared.boxed.Box.{Box}
use Rattle.bc_data.specs.declared.run.Place.{Place}
use Rattle.bc_data.specs.declared.program.Expr.{Expr}
use Rattle.bc_data.specs.declared.program.Expr as code
use Rattle.bc_data.specs.declared.program.Part.{Part}
use Rattle.bc_data.specs.declared.program.Stat.{Stat}
use Rattle.bc_data.specs.declared.program.Stat as stat
use Rattle.bc_data.specs.declared.program.Tweak.{Tweak}
use Rattle.bc_data.specs.Typed.{TypedExpressions, NoArg, Arg, TypedStatements, Nothing, Then}
use Rattle.bc_data.specs.ProgramView.{view_expr, expr_views, view_part, view_program_stat, program_stat_views}
use Rattle.bc_mean_run.specs.Weights.{part_weight, part_weights, stat_weight, stat_weights, weight, weights}
use Rattle.bc_mean_run.proofs.Arms.{made_is, passed_is}
use Rattle.bc_mean_run.proofs.Rows.{view_block, view_if, view_while}

exprs_on : (es : List Expr) (front : TypedExpressions) → weights front ≤ weights (expr_views es front)
exprs_on [] front = omega arith
exprs_on (e ∷ es) front = let h = exprs_on es (Arg front (view_expr e)) in omega arith

exprs_in : (es : List Expr) (front : TypedExpressions) (i : ℕ) (e : Expr) → i < length es → e ≡ get_or es i e → weight (view_expr e) < weights (expr_views es front)
exprs_in [] front i e within is = absurd (omega arith)
exprs_in (x ∷ es) front zero e within is = let h = exprs_on es (Arg front (view_expr x)) in subst (λ y. weight (view_expr y) < weights (expr_views (x ∷ es) front)) (sym is) (omega arith)
exprs_in (x ∷ es) front (suc i) e within is = exprs_in es (Arg front (view_expr x)) i e (omega arith) is

pub argument_falls : (es : List Expr) (i : ℕ) (e : Expr) → i < length es → e ≡ get_or es i e → weight (view_expr e) < weights (expr_views es NoArg)
argument_falls es i e within is = exprs_in es NoArg i e within is

stats_on : (ss : List Stat) (front : TypedStatements) → stat_weights front ≤ stat_weights (program_stat_views ss front)
stats_on [] front = omega arith
stats_on (s ∷ ss) front = let h = stats_on ss (Then front (view_program_stat s)) in omega arith

stats_in : (ss : List Stat) (front : TypedStatements) (i : ℕ) (s : Stat) → i < length ss → s ≡ get_or ss i s → stat_weight (view_program_stat s) + 1 < stat_weights (program_stat_views ss front)
stats_in [] front i s within is = absurd (omega arith)
stats_in (x ∷ ss) front zero s within is = let h = stats_on ss (Then front (view_program_stat x)) in subst (λ y. stat_weight (view_program_stat y) + 1 < stat_weights (program_stat_views (x ∷ ss) front)) (sym is) (omega arith)
stats_in (x ∷ ss) front (suc i) s within is = stats_in ss (Then front (view_program_stat x)) i s (omega arith) is

pub statement_falls : (ss : List Stat) (i : ℕ) (s : Stat) → i < length ss → s ≡ get_or ss i s → stat_weight (view_program_stat s) + 1 < stat_weights (program_stat_views ss Nothing)
statement_falls ss i s within is = stats_in ss Nothing i s within is

pub part_falls : (ps : List Part) (i : ℕ) (p : Part) → i < length ps → p ≡ get_or ps i p → part_weight (view_part p) < part_weights (map view_part ps)
part_falls [] i p within is = absurd (omega arith)
part_falls (x ∷ ps) zero p within is = subst (λ y. part_weight (view_part y) < part_weights (map view_part (x ∷ ps))) (sym is) (omega arith)
part_falls (x ∷ ps) (suc i) p within is = let h = part_falls ps i p (omega arith) is in omega arith

pub call_falls : (e d : Expr) (at : Place) (p : Box Expr Global) (c n : ℕ) (v : Vec Expr Global) (args : List Expr) → e ≡ code.Call at p c n v → d ≡ p.value → args ≡ v.items → weight (view_expr d) + weights (expr_views args NoArg) + 2 < weight (view_expr e)
call_falls e d at p c n v args is same all = let h = ap weight (passed_is e d at p c n v args is same all) in omega arith

pub make_falls : (e : Expr) (at : Place) (c : ℕ) (v : Vec Expr Global) (ts : Vec Tweak Global) (args : List Expr) → e ≡ code.Make at c v ts → args ≡ v.items → weights (expr_views args NoArg) + 2 < weight (view_expr e)
make_falls e at c v ts args is all = let h = ap weight (made_is e at c v ts args ts.items is all refl) in omega arith

pub branch_falls : (s : Stat) (test : Expr) (v o : Vec Stat Global) (body other : List Stat) → s ≡ stat.If test v o → body ≡ v.items → other ≡ o.items → weight (view_expr test) + stat_weights (program_stat_views body Nothing) + stat_weights (program_stat_views other Nothing) + 2 < stat_weight (view_program_stat s) + 1
branch_falls s test v o body other is same same_other =
    let h = ap stat_weight (ap view_program_stat is ∙ view_if test v o) in
    let k = ap (λ ss. stat_weights (program_stat_views ss Nothing)) same in
    let l = ap (λ ss. stat_weights (program_stat_views ss Nothing)) same_other in omega arith

pub while_falls : (s : Stat) (at : Place) (test : Expr) (v : Vec Stat Global) (body : List Stat) → s ≡ stat.While at test v → body ≡ v.items → weight (view_expr test) + stat_weights (program_stat_views body Nothing) + 2 < stat_weight (view_program_stat s) + 1
while_falls s at test v body is same =
    let h = ap stat_weight (ap view_program_stat is ∙ view_while at test v) in
    let k = ap (λ ss. stat_weights (program_stat_views ss Nothing)) same in omega arith

pub block_falls : (s : Stat) (v : Vec Stat Global) (body : List Stat) → s ≡ stat.Block v → body ≡ v.items → stat_weights (program_stat_views body Nothing) < stat_weight (view_program_stat s) + 1
block_falls s v body is same =
    let h = ap stat_weight (ap view_program_stat is ∙ view_block v) in
    let k = ap (λ ss. stat_weights (program_stat_views ss Nothing)) same in omega arith

-- Arguments and statements from left to right.
use Rattle.std.proofs.Common.{◌≡◌, ℕ, ◌+◌, ◌<◌, List, [], ◌∷◌, ◌++◌, length, take, drop, get_or, refl, ap, sym, ◌∙◌}
use Rattle.std.proofs.lemmas.List.{take_more, take-append-drop}
use Rattle.bc_data.specs.declared.run.Value.{Value}
use Rattle.bc_data.specs.declared.program.Expr.{Expr}
use Rattle.bc_data.specs.declared.program.Stat.{Stat}
use Rattle.bc_data.specs.Typed.{TypedExpressions, NoArg, Arg, TypedStatements, Nothing, Then}
use Rattle.bc_data.specs.ProgramView.{view_expr, expr_views, view_program_stat, program_stat_views}
use Rattle.bc_mean.specs.Work.{Work, Got, Gives, Stops, and_then}
use Rattle.bc_mean.specs.Evaluate.{World, Calls, Frame, evaluate, evaluate_all}
use Rattle.bc_mean.specs.Execute.{Flow, Goes, execute, execute_all, if_goes}
use Rattle.bc_mean_run.specs.Tree.{Halts, halt_seen}
use Rattle.bc_mean_run.specs.declared.halt.Interrupt.{Interrupt}
use Rattle.bc_mean_run.specs.declared.halt.Interrupt.TheVariants as interrupt

exprs-append : (xs ys : List Expr) (front : TypedExpressions) → expr_views (xs ++ ys) front ≡ expr_views ys (expr_views xs front)
exprs-append [] ys front = refl
exprs-append (x ∷ xs) ys front = exprs-append xs ys (Arg front (view_expr x))

stats-append : (xs ys : List Stat) (front : TypedStatements) → program_stat_views (xs ++ ys) front ≡ program_stat_views ys (program_stat_views xs front)
stats-append [] ys front = refl
stats-append (x ∷ xs) ys front = stats-append xs ys (Then front (view_program_stat x))

-- arguments behind some that halt
args_rest : (W : World) (C : Calls) (f : Frame) (w : Work) (es : List Expr) (front : TypedExpressions) (g : Got (List Value)) → ((go : List Value → Work → Got (List Value)) → and_then g go ≡ g) → evaluate_all W C f front w ≡ g → evaluate_all W C f (expr_views es front) w ≡ g
args_rest W C f w [] front g stays e = e
args_rest W C f w (x ∷ es) front g stays e =
    let go : List Value → Work → Got (List Value) = λ xs v. and_then (evaluate W C f (view_expr x) v) (λ y u. Gives (xs ++ y ∷ []) u) in
    args_rest W C f w es (Arg front (view_expr x)) g stays (ap (λ h. and_then h go) e ∙ stays go)

-- one argument more
args_next : (W : World) (C : Calls) (f : Frame) (w v : Work) (es : List Expr) (i : ℕ) (e : Expr) (xs : List Value) → i < length es → e ≡ get_or es i e → evaluate_all W C f (expr_views (take i es) NoArg) w ≡ Gives xs v → evaluate_all W C f (expr_views (take (i + 1) es) NoArg) w ≡ and_then (evaluate W C f (view_expr e) v) (λ y u. Gives (xs ++ y ∷ []) u)
args_next W C f w v es i e xs within is h =
    ap (λ l. evaluate_all W C f (expr_views l NoArg) w) (take_more es i e within)
    ∙ ap (λ t. evaluate_all W C f t w) (exprs-append (take i es) (get_or es i e ∷ []) NoArg)
    ∙ ap (λ g. and_then g (λ xs v. and_then (evaluate W C f (view_expr (get_or es i e)) v) (λ y u. Gives (xs ++ y ∷ []) u))) h
    ∙ ap (λ x. and_then (evaluate W C f (view_expr x) v) (λ y u. Gives (xs ++ y ∷ []) u)) (sym is)

pub args_on : (W : World) (C : Calls) (f : Frame) (w v u : Work) (es : List Expr) (i : ℕ) (e : Expr) (xs ys : List Value) (y : Value) → i < length es → e ≡ get_or es i e → evaluate_all W C f (expr_views (take i es) NoArg) w ≡ Gives xs v → evaluate W C f (view_expr e) v ≡ Gives y u → ys ≡ xs ++ y ∷ [] → evaluate_all W C f (expr_views (take (i + 1) es) NoArg) w ≡ Gives ys u
args_on W C f w v u es i e xs ys y within is h g same =
    args_next W C f w v es i e xs within is h ∙ ap (λ g. and_then g (λ y u. Gives (xs ++ y ∷ []) u)) g ∙ ap (λ l. Gives l u) (sym same)

pub args_stop : (i : Interrupt) (W : World) (C : Calls) (f : Frame) (w v u : Work) (es : List Expr) (k : ℕ) (e : Expr) (xs : List Value) → k < length es → e ≡ get_or es k e → evaluate_all W C f (expr_views (take k es) NoArg) w ≡ Gives xs v → Halts i u (evaluate W C f (view_expr e) v) → Halts i u (evaluate_all W C f (expr_views es NoArg) w)
args_stop interrupt.Memory W C f w v u es k e xs within is h stop = tt
args_stop (interrupt.Halted halt) W C f w v u es k e xs within is h stop =
    ap (λ l. evaluate_all W C f (expr_views l NoArg) w) (sym (take-append-drop (k + 1) es))
    ∙ ap (λ t. evaluate_all W C f t w) (exprs-append (take (k + 1) es) (drop (k + 1) es) NoArg)
    ∙ args_rest W C f w (drop (k + 1) es) (expr_views (take (k + 1) es) NoArg) _ (λ go. refl) (args_next W C f w v es k e xs within is h ∙ ap (λ g. and_then g (λ y u. Gives (xs ++ y ∷ []) u)) stop)

-- statements behind one that leaves or halts
stats_rest : (W : World) (C : Calls) (n : ℕ) (f : Frame) (w : Work) (ss : List Stat) (front : TypedStatements) (g : Got Flow) → ((go : Frame → Work → Got Flow) → and_then g (λ flow v. if_goes go flow v) ≡ g) → execute_all W C n f front w ≡ g → execute_all W C n f (program_stat_views ss front) w ≡ g
stats_rest W C n f w [] front g stays e = e
stats_rest W C n f w (s ∷ ss) front g stays e =
    let go : Frame → Work → Got Flow = λ h v. execute W C n h (view_program_stat s) v in
    stats_rest W C n f w ss (Then front (view_program_stat s)) g stays (ap (λ h. and_then h (λ flow v. if_goes go flow v)) e ∙ stays go)

-- one statement more
pub stats_next : (W : World) (C : Calls) (n : ℕ) (f h : Frame) (w v : Work) (ss : List Stat) (i : ℕ) (s : Stat) → i < length ss → s ≡ get_or ss i s → execute_all W C n f (program_stat_views (take i ss) Nothing) w ≡ Gives (Goes h) v → execute_all W C n f (program_stat_views (take (i + 1) ss) Nothing) w ≡ execute W C n h (view_program_stat s) v
stats_next W C n f h w v ss i s within is e =
    ap (λ l. execute_all W C n f (program_stat_views l Nothing) w) (take_more ss i s within)
    ∙ ap (λ t. execute_all W C n f t w) (stats-append (take i ss) (get_or ss i s ∷ []) Nothing)
    ∙ ap (λ g. and_then g (λ flow v. if_goes (λ h u. execute W C n h (view_program_stat (get_or ss i s)) u) flow v)) e
    ∙ ap (λ x. execute W C n h (view_program_stat x) v) (sym is)

-- a statement that is the last that runs
pub stats_end : (W : World) (C : Calls) (n : ℕ) (f h : Frame) (w v : Work) (ss : List Stat) (i : ℕ) (s : Stat) (g : Got Flow) → i < length ss → s ≡ get_or ss i s → execute_all W C n f (program_stat_views (take i ss) Nothing) w ≡ Gives (Goes h) v → ((go : Frame → Work → Got Flow) → and_then g (λ flow v. if_goes go flow v) ≡ g) → execute W C n h (view_program_stat s) v ≡ g → execute_all W C n f (program_stat_views ss Nothing) w ≡ g
stats_end W C n f h w v ss i s g within is e stays last =
    ap (λ l. execute_all W C n f (program_stat_views l Nothing) w) (sym (take-append-drop (i + 1) ss))
    ∙ ap (λ t. execute_all W C n f t w) (stats-append (take (i + 1) ss) (drop (i + 1) ss) Nothing)
    ∙ stats_rest W C n f w (drop (i + 1) ss) (program_stat_views (take (i + 1) ss) Nothing) g stays (stats_next W C n f h w v ss i s within is e ∙ last)

pub stats_stop : (k : Interrupt) (W : World) (C : Calls) (n : ℕ) (f h : Frame) (w v u : Work) (ss : List Stat) (i : ℕ) (s : Stat) → i < length ss → s ≡ get_or ss i s → execute_all W C n f (program_stat_views (take i ss) Nothing) w ≡ Gives (Goes h) v → Halts k u (execute W C n h (view_program_stat s) v) → Halts k u (execute_all W C n f (program_stat_views ss Nothing) w)
stats_stop interrupt.Memory W C n f h w v u ss i s within is e stop = tt
stats_stop (interrupt.Halted halt) W C n f h w v u ss i s within is e stop = stats_end W C n f h w v ss i s (Stops (halt_seen halt) u) within is e (λ go. refl) stop

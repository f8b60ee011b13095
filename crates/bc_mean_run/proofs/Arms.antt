-- What each form of an expression of the code comes to, by what its parts do.
use Rattle.std.proofs.Common.{◌≡◌, ℕ, true, false, if◌then◌else◌, List, Option, Vec, Global, refl, ap, sym, ◌∙◌}
use Rattle.std.specs.declared.boxed.Box.{Box}
use Rattle.bc_data.specs.declared.run.Place.{Place}
use Rattle.bc_data.specs.declared.run.Kind.{Kind}
use Rattle.bc_data.specs.declared.run.Value.{Value}
use Rattle.bc_data.specs.declared.run.Value.TheVariants as value
use Rattle.bc_data.specs.declared.program.Op.{Op}
use Rattle.bc_data.specs.declared.program.Op.TheVariants as op
use Rattle.bc_data.specs.declared.program.Expr.{Expr}
use Rattle.bc_data.specs.declared.program.Expr as code
use Rattle.bc_data.specs.declared.program.Tweak.{Tweak}
use Rattle.bc_data.specs.Typed as typed
use Rattle.bc_data.specs.Typed.{TypedExpression, TypedExpressions, NoArg}
use Rattle.bc_data.specs.ProgramView.{view_expr, expr_views}
use Rattle.bc_mean.specs.Work.{Work, Got, Gives, Stops, and_then, choose, known}
use Rattle.bc_mean.specs.Evaluate.{World, Calls, Frame, evaluate, evaluate_all, call_on, operate}
use Rattle.bc_mean.specs.Execute.{perform}
use Rattle.bc_mean_run.specs.declared.frame.Operands.{Operands}
use Rattle.bc_mean_run.specs.Tree.{finished, operands, decided, read_element, truth, with_right}
use Rattle.bc_mean_run.proofs.Chains.{assoc, ext}
use Rattle.bc_mean_run.proofs.Rows.{view_call, view_make}

-- the value of the code's expression
abbrev pub value_of : World → Calls → Frame → Expr → Work → Got Value
value_of W C f e w = evaluate W C f (view_expr e) w

-- an expression of one operand, as this one
abbrev pub unary_goes : World → Calls → Frame → Expr → Expr → Work → Got Value
unary_goes W C f e d w = and_then (value_of W C f d w) (finished W (view_expr e))

unary_same : (W : World) (C : Calls) (f : Frame) (w : Work) (e k d v : Expr) → e ≡ k → d ≡ v → value_of W C f k w ≡ unary_goes W C f k v w → value_of W C f e w ≡ unary_goes W C f e d w
unary_same W C f w e k d v is same h =
    ap (λ e. value_of W C f e w) is ∙ h ∙ ap (λ d. unary_goes W C f k d w) (sym same) ∙ ap (λ e. unary_goes W C f e d w) (sym is)

pub neg_is : (W : World) (C : Calls) (f : Frame) (w : Work) (e d : Expr) (p : Box Expr Global) → e ≡ code.Neg p → d ≡ p.value → value_of W C f e w ≡ unary_goes W C f e d w
neg_is W C f w e d p is same = unary_same W C f w e (code.Neg p) d p.value is same refl

pub not_is : (W : World) (C : Calls) (f : Frame) (w : Work) (e d : Expr) (p : Box Expr Global) → e ≡ code.Not p → d ≡ p.value → value_of W C f e w ≡ unary_goes W C f e d w
not_is W C f w e d p is same = unary_same W C f w e (code.Not p) d p.value is same refl

pub field_is : (W : World) (C : Calls) (f : Frame) (w : Work) (e d : Expr) (at : Place) (p : Box Expr Global) (field : ℕ) → e ≡ code.Field at p field → d ≡ p.value → value_of W C f e w ≡ unary_goes W C f e d w
field_is W C f w e d at p field is same = unary_same W C f w e (code.Field at p field) d p.value is same refl

pub length_is : (W : World) (C : Calls) (f : Frame) (w : Work) (e d : Expr) (at : Place) (p : Box Expr Global) → e ≡ code.Length at p → d ≡ p.value → value_of W C f e w ≡ unary_goes W C f e d w
length_is W C f w e d at p is same = unary_same W C f w e (code.Length at p) d p.value is same refl

pub array_is : (W : World) (C : Calls) (f : Frame) (w : Work) (e d : Expr) (at : Place) (k : Kind) (p : Box Expr Global) → e ≡ code.Array at k p → d ≡ p.value → value_of W C f e w ≡ unary_goes W C f e d w
array_is W C f w e d at k p is same = unary_same W C f w e (code.Array at k p) d p.value is same refl

abbrev pub two_goes : World → Calls → Frame → Place → Op → Expr → Value → Work → Got Value
two_goes W C f at o b x v = operate at o x (evaluate W C f (view_expr b)) v

pub two_is : (W : World) (C : Calls) (f : Frame) (w : Work) (e d b : Expr) (at : Place) (o : Op) (p q : Box Expr Global) → e ≡ code.Two at o p q → d ≡ p.value → b ≡ q.value → value_of W C f e w ≡ and_then (value_of W C f d w) (two_goes W C f at o b)
two_is W C f w e d b at o p q is same other =
    ap (λ e. value_of W C f e w) is ∙ ap (λ d. and_then (value_of W C f d w) (two_goes W C f at o q.value)) (sym same)
    ∙ ap (λ b. and_then (value_of W C f d w) (two_goes W C f at o b)) (sym other)

abbrev pub element_goes : World → Calls → Frame → Place → Expr → Value → Work → Got Value
element_goes W C f at b x v = and_then (value_of W C f b v) (λ i u. read_element W.look at x i u)

pub element_is : (W : World) (C : Calls) (f : Frame) (w : Work) (e d b : Expr) (at : Place) (p q : Box Expr Global) → e ≡ code.Elem at p q → d ≡ p.value → b ≡ q.value → value_of W C f e w ≡ and_then (value_of W C f d w) (element_goes W C f at b)
element_is W C f w e d b at p q is same other =
    ap (λ e. value_of W C f e w) is ∙ ap (λ d. and_then (value_of W C f d w) (element_goes W C f at q.value)) (sym same)
    ∙ ap (λ b. and_then (value_of W C f d w) (element_goes W C f at b)) (sym other)

-- a call, whose operands come first
abbrev pub called_goes : World → Calls → Place → ℕ → ℕ → Operands → Work → Got (Option Value)
called_goes W C at c n o v = call_on W C at c n o.object o.arguments v

abbrev pub known_goes : World → Calls → Place → ℕ → ℕ → Operands → Work → Got Value
known_goes W C at c n o v = and_then (call_on W C at c n o.object o.arguments v) known

abbrev operands_then : {A : Type 0} → (Operands → Work → Got A) → Value → List Value → Work → Got A
operands_then go x xs u = go (record { object = x; arguments = xs }) u

operands_first : {A : Type 0} (W : World) (C : Calls) (f : Frame) (w : Work) (o : TypedExpression) (args : TypedExpressions) (go : Operands → Work → Got A) → and_then (evaluate W C f o w) (λ x v. and_then (evaluate_all W C f args v) (operands_then go x)) ≡ and_then (operands W C f o args w) go
operands_first W C f w o args go =
    sym (assoc (evaluate W C f o w) (λ x v. and_then (evaluate_all W C f args v) (λ xs u. Gives (record { object = x; arguments = xs }) u)) go
    ∙ ext (evaluate W C f o w) _ _ (λ x v. assoc (evaluate_all W C f args v) (λ xs u. Gives (record { object = x; arguments = xs }) u) go))

-- a call of the code, with its object and its arguments as they are passed on
abbrev pub passed : Place → Expr → ℕ → ℕ → List Expr → TypedExpression
passed at o c n args = typed.Call at (view_expr o) c n (expr_views args NoArg)

pub passed_is : (e d : Expr) (at : Place) (p : Box Expr Global) (c n : ℕ) (v : Vec Expr Global) (args : List Expr) → e ≡ code.Call at p c n v → d ≡ p.value → args ≡ v.items → view_expr e ≡ passed at d c n args
passed_is e d at p c n v args is same all =
    ap view_expr is ∙ view_call at p c n v ∙ ap (λ d. passed at d c n v.items) (sym same) ∙ ap (λ args. passed at d c n args) (sym all)

pub call_is : (W : World) (C : Calls) (f : Frame) (w : Work) (e d : Expr) (at : Place) (p : Box Expr Global) (c n : ℕ) (v : Vec Expr Global) (args : List Expr) → e ≡ code.Call at p c n v → d ≡ p.value → args ≡ v.items → value_of W C f e w ≡ and_then (operands W C f (view_expr d) (expr_views args NoArg) w) (known_goes W C at c n)
call_is W C f w e d at p c n v args is same all =
    ap (λ t. evaluate W C f t w) (passed_is e d at p c n v args is same all) ∙ operands_first W C f w (view_expr d) (expr_views args NoArg) (known_goes W C at c n)

pub perform_is : (W : World) (C : Calls) (f : Frame) (w : Work) (e d : Expr) (at : Place) (p : Box Expr Global) (c n : ℕ) (v : Vec Expr Global) (args : List Expr) → e ≡ code.Call at p c n v → d ≡ p.value → args ≡ v.items → perform W C f (view_expr e) w ≡ and_then (operands W C f (view_expr d) (expr_views args NoArg) w) (called_goes W C at c n)
perform_is W C f w e d at p c n v args is same all =
    ap (λ t. perform W C f t w) (passed_is e d at p c n v args is same all) ∙ operands_first W C f w (view_expr d) (expr_views args NoArg) (called_goes W C at c n)

-- the same for a `new`
abbrev pub made : Place → ℕ → List Expr → List Tweak → TypedExpression
made at c args tweaks = typed.Make at c (expr_views args NoArg) tweaks

pub made_is : (e : Expr) (at : Place) (c : ℕ) (v : Vec Expr Global) (ts : Vec Tweak Global) (args : List Expr) (tweaks : List Tweak) → e ≡ code.Make at c v ts → args ≡ v.items → tweaks ≡ ts.items → view_expr e ≡ made at c args tweaks
made_is e at c v ts args tweaks is all braces =
    ap view_expr is ∙ view_make at c v ts ∙ ap (λ args. made at c args ts.items) (sym all) ∙ ap (λ tweaks. made at c args tweaks) (sym braces)

-- an operator, in two steps
right_is : (g : Got Value) → g ≡ and_then g Gives
right_is (Gives x w) = refl
right_is (Stops h w) = refl

pub operate_is : (at : Place) (o : Op) (x : Value) (right : Work → Got Value) (w : Work) → operate at o x right w ≡ and_then (decided o x w) (with_right at o x right)
operate_is at op.And (value.Bool true) right w = right_is (right w)
operate_is at op.And (value.Bool false) right w = refl
operate_is at op.And (value.Int n) right w = refl
operate_is at op.And value.Null right w = refl
operate_is at op.And (value.Old n) right w = refl
operate_is at op.And (value.New n) right w = refl
operate_is at op.Or (value.Bool true) right w = refl
operate_is at op.Or (value.Bool false) right w = right_is (right w)
operate_is at op.Or (value.Int n) right w = refl
operate_is at op.Or value.Null right w = refl
operate_is at op.Or (value.Old n) right w = refl
operate_is at op.Or (value.New n) right w = refl
operate_is at op.Same x right w = refl
operate_is at op.Differ x right w = refl
operate_is at op.Less x right w = refl
operate_is at op.LessEq x right w = refl
operate_is at op.More x right w = refl
operate_is at op.MoreEq x right w = refl
operate_is at op.Add x right w = refl
operate_is at op.Sub x right w = refl
operate_is at op.Mul x right w = refl
operate_is at op.Div x right w = refl
operate_is at op.Rem x right w = refl

-- a choice, in two steps
pub choose_is : {A : Type 0} (x : Value) (one other : Work → Got A) (w : Work) → choose x one other w ≡ and_then (truth x w) (λ b v. if b then one v else other v)
choose_is (value.Bool b) one other w = refl
choose_is (value.Int n) one other w = refl
choose_is value.Null one other w = refl
choose_is (value.Old n) one other w = refl
choose_is (value.New n) one other w = refl

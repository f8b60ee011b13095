-- What each form of a statement of the code does, by what its parts do; loops by rounds, and calls by bodies.
use Rattle.std.proofs.Common.{◌≡◌, ℕ, zero, suc, ◌+◌, ◌-◌, ◌<◌, Bool, true, if◌then◌else◌, List, Vec, Global, ap, sym, ◌∙◌, arith}
use Rattle.bc_data.specs.declared.run.Place.{Place}
use Rattle.bc_data.specs.declared.run.Value.{Value}
use Rattle.bc_data.specs.declared.program.Expr.{Expr}
use Rattle.bc_data.specs.declared.program.Stat.{Stat}
use Rattle.bc_data.specs.declared.program.Stat as stat
use Rattle.bc_data.specs.Typed.{Nothing, TypedMethod}
use Rattle.bc_data.specs.ProgramView.{view_expr, view_program_stat, program_stat_views}
use Rattle.bc_mean.specs.Work.{Work, Got, Gives, Stops, Wrong, and_then, enter, reach, turn}
use Rattle.bc_mean.specs.Evaluate.{World, Calls, Frame, evaluate, index_in}
use Rattle.bc_mean.specs.Execute.{Flow, Goes, assert_true, calls, execute, execute_all, goes_on, if_goes, loop, method_frame, returned, round, write_cell}
use Rattle.bc_mean_run.specs.Tree.{branched, condition, truth, world_of, write_element, write_field}
use Rattle.bc_mean_run.specs.declared.stage.Stage.{Stage}
use Rattle.bc_mean_run.proofs.Arms.{choose_is, value_of}
use Rattle.bc_mean_run.proofs.Chains.{assoc, ext}
use Rattle.bc_mean_run.proofs.Rows.{view_block, view_if, view_while}

-- what the code's statement does
abbrev pub done : World → Calls → ℕ → Frame → Stat → Work → Got Flow
done W C n f s w = execute W C n f (view_program_stat s) w

abbrev pub all_done : World → Calls → ℕ → Frame → List Stat → Work → Got Flow
all_done W C n f ss w = execute_all W C n f (program_stat_views ss Nothing) w

-- what is left of the write of a field, once its object's value is known
abbrev pub field_value : World → Calls → Frame → Place → ℕ → Expr → Value → Work → Got Flow
field_value W C f at field e x v = and_then (value_of W C f e v) (λ y u. goes_on f (write_field W.look at x field y u))

pub set_field_is : (W : World) (C : Calls) (n : ℕ) (f : Frame) (w : Work) (s : Stat) (at : Place) (o e : Expr) (field : ℕ) → s ≡ stat.SetField at o field e → done W C n f s w ≡ and_then (value_of W C f o w) (field_value W C f at field e)
set_field_is W C n f w s at o e field is =
    ap (λ s. done W C n f s w) is
    ∙ ext (value_of W C f o w) _ _ (λ x v. ext (value_of W C f e v) _ _ (λ y u. sym (assoc (reach W.look at x u) (λ o t. write_cell o field y t) (λ _ t. Gives (Goes f) t))))

-- the same for an element
abbrev pub element_index : World → Calls → Frame → Place → Expr → Expr → Value → Work → Got Flow
element_index W C f at index e x v = and_then (value_of W C f index v) (λ i u. and_then (value_of W C f e u) (λ y t. goes_on f (write_element W.look at x i y t)))

abbrev pub element_value : World → Calls → Frame → Place → Expr → Value → Value → Work → Got Flow
element_value W C f at e x i u = and_then (value_of W C f e u) (λ y t. goes_on f (write_element W.look at x i y t))

element_goes_on : (W : World) (f : Frame) (at : Place) (x i y : Value) (t : Work) → and_then (reach W.look at x t) (λ o s. and_then (index_in at o.body i s) (λ k r. goes_on f (write_cell o k y r))) ≡ goes_on f (write_element W.look at x i y t)
element_goes_on W f at x i y t =
    sym (assoc (reach W.look at x t) (λ o s. and_then (index_in at o.body i s) (λ k r. write_cell o k y r)) (λ _ t. Gives (Goes f) t)
    ∙ ext (reach W.look at x t) _ _ (λ o s. assoc (index_in at o.body i s) (λ k r. write_cell o k y r) (λ _ t. Gives (Goes f) t)))

pub set_element_is : (W : World) (C : Calls) (n : ℕ) (f : Frame) (w : Work) (s : Stat) (at : Place) (array index e : Expr) → s ≡ stat.SetElem at array index e → done W C n f s w ≡ and_then (value_of W C f array w) (element_index W C f at index e)
set_element_is W C n f w s at array index e is =
    ap (λ s. done W C n f s w) is
    ∙ ext (value_of W C f array w) _ _ (λ x v. ext (value_of W C f index v) _ _ (λ i u. ext (value_of W C f e u) _ _ (λ y t. element_goes_on W f at x i y t)))

pub assert_is : (W : World) (C : Calls) (n : ℕ) (f : Frame) (w : Work) (s : Stat) (at : Place) (e : Expr) → s ≡ stat.Assert at e → done W C n f s w ≡ and_then (value_of W C f e w) (λ x v. goes_on f (assert_true at x v))
assert_is W C n f w s at e is = ap (λ s. done W C n f s w) is

abbrev pub branches : World → Calls → ℕ → Frame → List Stat → List Stat → Bool → Work → Got Flow
branches W C n f body other = branched W C n f (program_stat_views body Nothing) (program_stat_views other Nothing)

pub if_is : (W : World) (C : Calls) (n : ℕ) (f : Frame) (w : Work) (s : Stat) (test : Expr) (v o : Vec Stat Global) (body other : List Stat) → s ≡ stat.If test v o → body ≡ v.items → other ≡ o.items → done W C n f s w ≡ and_then (condition W C f (view_expr test) w) (branches W C n f body other)
if_is W C n f w s test v o body other is same same_other =
    ap (λ s. done W C n f s w) is ∙ ap (λ t. execute W C n f t w) (view_if test v o)
    ∙ ext (value_of W C f test w) _ _ (λ x u. choose_is x (all_done W C n f v.items) (all_done W C n f o.items) u)
    ∙ sym (assoc (value_of W C f test w) truth (branches W C n f v.items o.items))
    ∙ ap (λ b. and_then (condition W C f (view_expr test) w) (branches W C n f b o.items)) (sym same)
    ∙ ap (λ b. and_then (condition W C f (view_expr test) w) (branches W C n f body b)) (sym same_other)

abbrev pub tests : World → Calls → Expr → Frame → Work → Got Value
tests W C test g v = evaluate W C g (view_expr test) v

abbrev pub bodies : World → Calls → ℕ → List Stat → Frame → Work → Got Flow
bodies W C n body g v = execute_all W C n g (program_stat_views body Nothing) v

pub while_is : (W : World) (C : Calls) (n : ℕ) (f : Frame) (w : Work) (s : Stat) (at : Place) (test : Expr) (v : Vec Stat Global) (body : List Stat) → s ≡ stat.While at test v → body ≡ v.items → done W C n f s w ≡ loop n at (tests W C test) (bodies W C n body) f w
while_is W C n f w s at test v body is same =
    ap (λ s. done W C n f s w) is ∙ ap (λ t. execute W C n f t w) (view_while at test v)
    ∙ ap (λ b. loop n at (tests W C test) (bodies W C n b) f w) (sym same)

pub block_is : (W : World) (C : Calls) (n : ℕ) (f : Frame) (w : Work) (s : Stat) (v : Vec Stat Global) (body : List Stat) → s ≡ stat.Block v → body ≡ v.items → done W C n f s w ≡ all_done W C n f body w
block_is W C n f w s v body is same =
    ap (λ s. done W C n f s w) is ∙ ap (λ t. execute W C n f t w) (view_block v) ∙ ap (λ b. all_done W C n f b w) (sym same)

-- what comes behind a round
abbrev pub again : ℕ → Place → (Frame → Work → Got Value) → (Frame → Work → Got Flow) → Frame → Work → Got Flow
again zero at test body = λ f w. Stops Wrong w
again (suc n) at test body = loop n at test body

-- a round whose condition is true
abbrev pub taken : Place → (Frame → Work → Got Flow) → (Frame → Work → Got Flow) → Frame → Work → Got Flow
taken at body go f u = and_then (turn at u) (λ _ t. and_then (body f t) (λ flow s. if_goes go flow s))

abbrev pub tested : Place → (Frame → Work → Got Flow) → (Frame → Work → Got Flow) → Frame → Bool → Work → Got Flow
tested at body go f b u = if b then taken at body go f u else Gives (Goes f) u

round_is : (at : Place) (test : Frame → Work → Got Value) (body go : Frame → Work → Got Flow) (f : Frame) (w : Work) → round at test body go f w ≡ and_then (test f w) (λ x v. and_then (truth x v) (tested at body go f))
round_is at test body go f w = ext (test f w) _ _ (λ x v. choose_is x (taken at body go f) (Gives (Goes f)) v)

loop_is : (n : ℕ) (at : Place) (test : Frame → Work → Got Value) (body : Frame → Work → Got Flow) (f : Frame) (w : Work) → loop n at test body f w ≡ and_then (test f w) (λ x v. and_then (truth x v) (tested at body (again n at test body) f))
loop_is zero at test body f w = round_is at test body (again zero at test body) f w
loop_is (suc n) at test body f w = round_is at test body (again (suc n) at test body) f w

-- by its condition
pub loop_tested : (n : ℕ) (at : Place) (test : Frame → Work → Got Value) (body : Frame → Work → Got Flow) (f : Frame) (w : Work) → loop n at test body f w ≡ and_then (and_then (test f w) truth) (tested at body (again n at test body) f)
loop_tested n at test body f w = loop_is n at test body f w ∙ sym (assoc (test f w) truth (tested at body (again n at test body) f))

-- which is true
pub loop_taken : (n : ℕ) (at : Place) (test : Frame → Work → Got Value) (body : Frame → Work → Got Flow) (f : Frame) (w u : Work) (b : Bool) → and_then (test f w) truth ≡ Gives b u → b ≡ true → loop n at test body f w ≡ taken at body (again n at test body) f u
loop_taken n at test body f w u b e holds =
    loop_tested n at test body f w ∙ ap (λ g. and_then g (tested at body (again n at test body) f)) e ∙ ap (λ b. tested at body (again n at test body) f b u) holds

pub again_more : (n : ℕ) (at : Place) (test : Frame → Work → Got Value) (body : Frame → Work → Got Flow) (f : Frame) (w : Work) → 0 < n → again n at test body f w ≡ loop (n - 1) at test body f w
again_more zero at test body f w some = absurd (omega arith)
again_more (suc n) at test body f w some = let e : n ≡ suc n - 1 = omega arith in ap (λ m. loop m at test body f w) e

-- a call that has been entered
pub invoked : (W : World) (n d : ℕ) (at : Place) (m : TypedMethod) (first : List Value) (w v : Work) (f : Frame) (body : List Stat) → 0 < n → enter at d w ≡ Gives tt v → f ≡ method_frame m first → program_stat_views body Nothing ≡ m.body → calls W n d at m first w ≡ and_then (all_done W (calls W (n - 1) (d + 1)) (n - 1) f body v) returned
invoked W zero d at m first w v f body some e frame same = absurd (omega arith)
invoked W (suc n) d at m first w v f body some e frame same =
    let one : n ≡ suc n - 1 = omega arith in
    ap (λ g. and_then g (λ _ v. and_then (execute_all W (calls W n (d + 1)) n (method_frame m first) m.body v) returned)) e
    ∙ ap (λ k. and_then (execute_all W (calls W k (d + 1)) k (method_frame m first) m.body v) returned) one
    ∙ ap (λ g. and_then (execute_all W (calls W (suc n - 1) (d + 1)) (suc n - 1) g m.body v) returned) (sym frame)
    ∙ ap (λ b. and_then (execute_all W (calls W (suc n - 1) (d + 1)) (suc n - 1) f b v) returned) (sym same)

-- what is run of a call that has been entered, where the run stands
abbrev pub body_run : Stage → Frame → List Stat → Work → Got Flow
body_run s f body v = all_done (world_of s) (calls (world_of s) (s.left - 1) (s.depth + 1)) (s.left - 1) f body v

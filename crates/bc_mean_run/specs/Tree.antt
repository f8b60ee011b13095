-- The code that runs an invocation, against the definitions: its trees, its work, and its answers.
use Rattle.std.specs.Prelude.{◌≡◌, ℕ, pos, length, Bool, true, false, not, if◌then◌else◌, List, [], ◌∷◌, ◌++◌, map, slice_get, slice_set, Option, Some, None, Result, Ok, Err}
use Rattle.bc_data.specs.Typed as typed
use Rattle.bc_data.specs.Typed.{TypedExpression, TypedExpressions, TypedStatement, TypedStatements}
use Rattle.bc_data.specs.declared.run.Place.{Place}
use Rattle.bc_data.specs.declared.run.FaultKind.TheVariants as fault
use Rattle.bc_data.specs.declared.run.Value.{Value}
use Rattle.bc_data.specs.declared.run.Value.TheVariants as value
use Rattle.bc_data.specs.declared.program.Op.{Op}
use Rattle.bc_data.specs.declared.program.Op.TheVariants as op
use Rattle.bc_mean.specs.Values.{same_value}
use Rattle.bc_mean.specs.Work.{Look, Work, Got, Gives, Stops, ObjectRef, OldObject, NewObject, Reached, look_of, and_then, faults, known, touch, reach, seen, made_one}
use Rattle.bc_mean.specs.Work as work
use Rattle.bc_mean.specs.Evaluate.{World, Frame, Calls, calculate, evaluate, evaluate_all, index_in, invert, make_array, negate}
use Rattle.bc_mean.specs.Execute as meant
use Rattle.bc_mean.specs.Execute.{calls, execute_all, write_cell}
use Rattle.bc_mean_run.specs.declared.halt.Halt.{Halt}
use Rattle.bc_mean_run.specs.declared.halt.Halt.TheVariants as halt
use Rattle.bc_mean_run.specs.declared.halt.Interrupt.{Interrupt}
use Rattle.bc_mean_run.specs.declared.halt.Interrupt.TheVariants as interrupt
use Rattle.bc_mean_run.specs.declared.objects.Reached.{Reached as CodeReached}
use Rattle.bc_mean_run.specs.declared.run.Object.{Object}
use Rattle.bc_mean_run.specs.declared.run.Object.TheVariants as object
use Rattle.bc_mean_run.specs.declared.frame.Operands.{Operands}
use Rattle.bc_mean_run.specs.declared.stage.Stage.{Stage}
use Rattle.bc_mean_run.specs.declared.frame.Flow.{Flow}
use Rattle.bc_mean_run.specs.declared.frame.Flow.TheVariants as flow

abbrev pub halt_seen : Halt → work.Halt
halt_seen (halt.Faulted f) = work.Faulted f
halt_seen (halt.Missing id) = work.Missing id
halt_seen halt.Wrong = work.Wrong

-- the run halts so, and its work is this; want of memory alone is free
abbrev pub Halts : {A : Type 0} → Interrupt → Work → Got A → Type 0
Halts (interrupt.Halted h) w g = g ≡ Stops (halt_seen h) w
Halts interrupt.Memory w g = Unit {0}

-- an answer of the code, with the work that it leaves, is what the definition comes to
abbrev pub Mirrors : {X A : Type 0} → Result X Interrupt → (X → A) → Work → Got A → Type 0
Mirrors (Ok x) see w g = g ≡ Gives (see x) w
Mirrors (Err i) see w g = Halts i w g

abbrev pub object_seen : Object → ObjectRef
object_seen (object.Old id) = OldObject id
object_seen (object.New n) = NewObject n

abbrev pub world_of : Stage → World
world_of s = record { look = look_of s.store.now; classes = s.classes.now; objects = s.objects.now }

-- what calls do where the run stands
abbrev pub calls_of : Stage → Calls
calls_of s = calls (world_of s) s.left s.depth

abbrev pub flow_seen : Flow → Frame → meant.Flow
flow_seen flow.Goes f = meant.Goes f
flow_seen (flow.Returns result) f = meant.Returns result
flow_seen flow.Leaves f = meant.Leaves

-- the first step towards an object: the test for `null`, and the touch
abbrev pub touched : Place → Value → Work → Got ObjectRef
touched at value.Null w = faults fault.Null at w
touched at (value.Old id) w = Gives (OldObject id) (touch id w)
touched at (value.New n) w = Gives (NewObject n) w
touched at (value.Int n) w = Stops work.Wrong w
touched at (value.Bool b) w = Stops work.Wrong w

-- and the second: its body
abbrev pub found : Look → ObjectRef → Work → Got Reached
found L (OldObject id) w = seen id (L id) w
found L (NewObject n) w = made_one n (slice_get w.made n) w

-- an element in its place in a list, or at the end of one that hasn't that place
abbrev pub put_at : {A : Type 0} → List A → Option ℕ → A → List A
put_at xs (Some i) x = slice_set xs i x
put_at xs None x = xs ++ x ∷ []

abbrev pub reached_seen : CodeReached → Reached
reached_seen r = record { object = object_seen r.object; body = r.body }

-- what an expression or a statement does with an object's value, once its other operands are known
abbrev pub read_field : Look → Place → Value → ℕ → Work → Got Value
read_field L at x field w = and_then (reach L at x w) (λ o u. known (slice_get o.body.cells field) u)

abbrev pub read_length : Look → Place → Value → Work → Got Value
read_length L at x w = and_then (reach L at x w) (λ o u. Gives (value.Int (pos (length o.body.cells))) u)

abbrev pub read_element : Look → Place → Value → Value → Work → Got Value
read_element L at x i w =
    and_then (reach L at x w) (λ o t. and_then (index_in at o.body i t) (λ n s. known (slice_get o.body.cells n) s))

-- a truth value, where one is asked for
abbrev pub truth : Value → Work → Got Bool
truth (value.Bool b) w = Gives b w
truth (value.Int n) w = Stops work.Wrong w
truth value.Null w = Stops work.Wrong w
truth (value.Old id) w = Stops work.Wrong w
truth (value.New n) w = Stops work.Wrong w

-- what an operator's left operand alone decides
abbrev pub decided : Op → Value → Work → Got (Option Value)
decided op.And x w = and_then (truth x w) (λ b v. Gives (if b then None else Some (value.Bool false)) v)
decided op.Or x w = and_then (truth x w) (λ b v. Gives (if b then Some (value.Bool true) else None) v)
decided _ x w = Gives None w

-- and what both operands give
abbrev pub combined : Place → Op → Value → Value → Work → Got Value
combined at op.And x y w = Gives y w
combined at op.Or x y w = Gives y w
combined at op.Same x y w = Gives (value.Bool (same_value x y)) w
combined at op.Differ x y w = Gives (value.Bool (not (same_value x y))) w
combined at op.Less x y w = calculate at op.Less x y w
combined at op.LessEq x y w = calculate at op.LessEq x y w
combined at op.More x y w = calculate at op.More x y w
combined at op.MoreEq x y w = calculate at op.MoreEq x y w
combined at op.Add x y w = calculate at op.Add x y w
combined at op.Sub x y w = calculate at op.Sub x y w
combined at op.Mul x y w = calculate at op.Mul x y w
combined at op.Div x y w = calculate at op.Div x y w
combined at op.Rem x y w = calculate at op.Rem x y w

abbrev pub with_right : Place → Op → Value → (Work → Got Value) → Option Value → Work → Got Value
with_right at o x right None w = and_then (right w) (λ y v. combined at o x y v)
with_right at o x right (Some y) w = Gives y w

-- how a body ends is no part of what it leaves
abbrev pub ended : Got meant.Flow → Got (Unit {0})
ended g = and_then g (λ _ w. Gives tt w)

-- what an expression of one operand comes to, once that has its value
abbrev pub finished : World → TypedExpression → Value → Work → Got Value
finished W (typed.Neg e) x w = negate x w
finished W (typed.Not e) x w = invert x w
finished W (typed.FieldOf at object field) x w = read_field W.look at x field w
finished W (typed.Length at array) x w = read_length W.look at x w
finished W (typed.Array at k size) x w = make_array at k x w
finished W _ x w = Stops work.Wrong w

-- the object and the arguments of a call
abbrev pub operands : World → Calls → Frame → TypedExpression → TypedExpressions → Work → Got Operands
operands W C f object args w =
    and_then (evaluate W C f object w) (λ x v. and_then (evaluate_all W C f args v) (λ xs u. Gives (record { object = x; arguments = xs }) u))

-- a condition
abbrev pub condition : World → Calls → Frame → TypedExpression → Work → Got Bool
condition W C f e w = and_then (evaluate W C f e w) truth

-- one of two bodies
abbrev pub branched : World → Calls → ℕ → Frame → TypedStatements → TypedStatements → Bool → Work → Got meant.Flow
branched W C n f body other b w = if b then execute_all W C n f body w else execute_all W C n f other w

-- a statement without others in it
abbrev pub is_plain : TypedStatement → Bool
is_plain (typed.If test body other) = false
is_plain (typed.While at test body) = false
is_plain (typed.Block body) = false
is_plain _ = true

-- what a write of a field or of an element does with an object's value, once its other operands are known
abbrev pub write_field : Look → Place → Value → ℕ → Value → Work → Got (Unit {0})
write_field L at x field y w = and_then (reach L at x w) (λ o t. write_cell o field y t)

abbrev pub write_element : Look → Place → Value → Value → Value → Work → Got (Unit {0})
write_element L at x i y w = and_then (reach L at x w) (λ o s. and_then (index_in at o.body i s) (λ k r. write_cell o k y r))

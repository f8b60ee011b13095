-- Expressions over two look-ups.
use Rattle.std.proofs.Common.{ℕ, pos, negsuc, List, [], ◌∷◌}
use Rattle.std.specs.Prelude.{nat_le, slice_get, option_and_then, Option, Some, None}
use Rattle.bc_data.specs.Typed.{TypedExpression, Int, Truth, Null, Local, Neg, Not, Two, FieldOf, Length, Elem, Call, Make, Array, TypedExpressions, NoArg, Arg, TypedMethod, TypedClass}
use Rattle.bc_data.specs.declared.program.Op.{Op}
use Rattle.bc_data.specs.declared.program.Op.TheVariants as op
use Rattle.bc_data.specs.declared.program.Tweak.{Tweak}
use Rattle.bc_data.specs.declared.program.Tweak.TheVariants as tweak
use Rattle.bc_data.specs.declared.run.Body.{Body}
use Rattle.bc_data.specs.declared.run.FaultKind.TheVariants as fault
use Rattle.bc_data.specs.declared.run.Kind.{Kind}
use Rattle.bc_data.specs.declared.run.Place.{Place}
use Rattle.bc_data.specs.declared.run.Value.{Value}
use Rattle.bc_data.specs.declared.run.Value.TheVariants as value
use Rattle.bc_mean.specs.Values.{arithmetic, divides_by_zero}
use Rattle.bc_mean.specs.Work.{Work, Got, and_then}
use Rattle.bc_mean.specs.Evaluate.{World, Frame, Calls, negate, invert, calculate, operate, index_of, within, index_in, tweak_one, tweak_all, zero_object, zero_array, construct, make_array, method_in, call_on, evaluate, evaluate_all}
use Rattle.bc_law_locality.proofs.Steps.{bind_tied, choose_tied, if_tied, known_then, known_tied, made_then, make_tied, reach_then, set_flag_tied}
use Rattle.bc_law_locality.proofs.Tied.{Looks, Tied, tied_fault, tied_same, tied_then, tied_wrong}

negate_tied : {K : Looks} (x : Value) (w : Work) → Tied K w (negate x w) (negate x w)
negate_tied (value.Int n) w = tied_same w _
negate_tied (value.Bool b) w = tied_wrong w
negate_tied value.Null w = tied_wrong w
negate_tied (value.Old id) w = tied_wrong w
negate_tied (value.New n) w = tied_wrong w

invert_tied : {K : Looks} (x : Value) (w : Work) → Tied K w (invert x w) (invert x w)
invert_tied (value.Bool b) w = tied_same w _
invert_tied (value.Int n) w = tied_wrong w
invert_tied value.Null w = tied_wrong w
invert_tied (value.Old id) w = tied_wrong w
invert_tied (value.New n) w = tied_wrong w

calculate_tied : {K : Looks} (at : Place) (o : Op) (x y : Value) (w : Work) → Tied K w (calculate at o x y w) (calculate at o x y w)
calculate_tied at o (value.Int a) (value.Int b) w =
    if_tied (divides_by_zero o b) _ _ _ _ (tied_fault w fault.Zero at) (known_tied (arithmetic o a b) w)
calculate_tied at o (value.Int a) (value.Bool b) w = tied_wrong w
calculate_tied at o (value.Int a) value.Null w = tied_wrong w
calculate_tied at o (value.Int a) (value.Old id) w = tied_wrong w
calculate_tied at o (value.Int a) (value.New n) w = tied_wrong w
calculate_tied at o (value.Bool b) y w = tied_wrong w
calculate_tied at o value.Null y w = tied_wrong w
calculate_tied at o (value.Old id) y w = tied_wrong w
calculate_tied at o (value.New n) y w = tied_wrong w

operate_tied : {K : Looks} (at : Place) (o : Op) (x : Value) (operand right_operand : Work → Got Value) (w : Work) → ((v : Work) → Tied K v (operand v) (right_operand v)) → Tied K w (operate at o x operand w) (operate at o x right_operand w)
operate_tied at op.And x operand right_operand w t = choose_tied x operand _ right_operand _ w (t w) (tied_same w _)
operate_tied at op.Or x operand right_operand w t = choose_tied x _ operand _ right_operand w (tied_same w _) (t w)
operate_tied at op.Same x operand right_operand w t = tied_then (t w) (λ y v. tied_same v _)
operate_tied at op.Differ x operand right_operand w t = tied_then (t w) (λ y v. tied_same v _)
operate_tied at op.Less x operand right_operand w t = tied_then (t w) (λ y v. calculate_tied at op.Less x y v)
operate_tied at op.LessEq x operand right_operand w t = tied_then (t w) (λ y v. calculate_tied at op.LessEq x y v)
operate_tied at op.More x operand right_operand w t = tied_then (t w) (λ y v. calculate_tied at op.More x y v)
operate_tied at op.MoreEq x operand right_operand w t = tied_then (t w) (λ y v. calculate_tied at op.MoreEq x y v)
operate_tied at op.Add x operand right_operand w t = tied_then (t w) (λ y v. calculate_tied at op.Add x y v)
operate_tied at op.Sub x operand right_operand w t = tied_then (t w) (λ y v. calculate_tied at op.Sub x y v)
operate_tied at op.Mul x operand right_operand w t = tied_then (t w) (λ y v. calculate_tied at op.Mul x y v)
operate_tied at op.Div x operand right_operand w t = tied_then (t w) (λ y v. calculate_tied at op.Div x y v)
operate_tied at op.Rem x operand right_operand w t = tied_then (t w) (λ y v. calculate_tied at op.Rem x y v)

within_then : {A B : Type 0} {K : Looks} {w : Work} (at : Place) (o : Option A) (go to : A → Work → Got B) → ((x : A) → Tied K w (go x w) (to x w)) → Tied K w (and_then (within at o w) go) (and_then (within at o w) to)
within_then {w = w} at None go to k = tied_fault w fault.Bounds at
within_then at (Some x) go to k = k x

-- an index is found in the same work
pub index_then : {B : Type 0} {K : Looks} {w : Work} (at : Place) (b : Body) (x : Value) (go to : ℕ → Work → Got B) → ((n : ℕ) → Tied K w (go n w) (to n w)) → Tied K w (and_then (index_in at b x w) go) (and_then (index_in at b x w) to)
index_then at b (value.Int i) go to k = within_then at (option_and_then (λ n. option_and_then (λ x. Some n) (slice_get b.cells n)) (index_of i)) go to k
index_then {w = w} at b (value.Bool c) go to k = tied_wrong w
index_then {w = w} at b value.Null go to k = tied_wrong w
index_then {w = w} at b (value.Old id) go to k = tied_wrong w
index_then {w = w} at b (value.New n) go to k = tied_wrong w

tweak_one_tied : {K : Looks} (f : Frame) (n : ℕ) (t : Tweak) (w : Work) → Tied K w (tweak_one f n t w) (tweak_one f n t w)
tweak_one_tied f n (tweak.Flag flag b) w = made_then n (slice_get w.made n) _ _ (λ o p. set_flag_tied o flag b w p)
tweak_one_tied f n (tweak.Add at variable) w =
    made_then n (slice_get w.made n) _ _ (λ o p. known_then (slice_get f.tags variable) _ _ (λ t. bind_tied at o t w p))

tweak_all_tied : {K : Looks} (f : Frame) (n : ℕ) (ts : List Tweak) (w : Work) → Tied K w (tweak_all f n ts w) (tweak_all f n ts w)
tweak_all_tied f n [] w = tied_same w tt
tweak_all_tied f n (t ∷ ts) w = tied_then (tweak_one_tied f n t w) (λ x v. tweak_all_tied f n ts v)

make_array_tied : {K : Looks} (at : Place) (k : Kind) (x : Value) (w : Work) → Tied K w (make_array at k x w) (make_array at k x w)
make_array_tied at k (value.Int (pos n)) w =
    if_tied (nat_le n 65536) _ _ _ _ (tied_then (make_tied at (zero_array k n) w) (λ i v. tied_same v _)) (tied_fault w fault.Size at)
make_array_tied at k (value.Int (negsuc n)) w = tied_fault w fault.Size at
make_array_tied at k (value.Bool b) w = tied_wrong w
make_array_tied at k value.Null w = tied_wrong w
make_array_tied at k (value.Old id) w = tied_wrong w
make_array_tied at k (value.New n) w = tied_wrong w

-- two worlds that differ in their look-ups alone
abbrev pub left_world : Looks → List TypedClass → World
left_world K classes = record { look = K.left; classes = classes; objects = K.objects }

abbrev pub right_world : Looks → List TypedClass → World
right_world K classes = record { look = K.right; classes = classes; objects = K.objects }

abbrev pub CallsTied : Looks → Calls → Calls → Type 0
CallsTied K C D = (at : Place) (m : TypedMethod) (xs : List Value) (w : Work) → Tied K w (C at m xs w) (D at m xs w)

module _ (K : Looks) (classes : List TypedClass) (C D : Calls) (c : CallsTied K C D) where
  construct_tied : (at : Place) (o : Option TypedMethod) (n : ℕ) (xs : List Value) (w : Work) → Tied K w (construct C at o n xs w) (construct D at o n xs w)
  construct_tied at None n xs w = tied_same w _
  construct_tied at (Some m) n xs w = tied_then (c at m (value.New n ∷ xs) w) (λ x v. tied_same v _)

  pub call_on_tied : (at : Place) (class n : ℕ) (x : Value) (xs : List Value) (w : Work) → Tied K w (call_on (left_world K classes) C at class n x xs w) (call_on (right_world K classes) D at class n x xs w)
  call_on_tied at class n x xs w =
      reach_then at x w _ _ (λ v o p. known_then (method_in (left_world K classes) class n) _ _ (λ m. c at m (x ∷ xs) v))

  module _ (f : Frame) where
    mutual
      pub evaluate_tied : (e : TypedExpression) (w : Work) → Tied K w (evaluate (left_world K classes) C f e w) (evaluate (right_world K classes) D f e w)
      evaluate_tied (Int n) w = tied_same w _
      evaluate_tied (Truth b) w = tied_same w _
      evaluate_tied Null w = tied_same w _
      evaluate_tied (Local slot) w = known_tied (slice_get f.slots slot) w
      evaluate_tied (Neg e) w = tied_then (evaluate_tied e w) negate_tied
      evaluate_tied (Not e) w = tied_then (evaluate_tied e w) invert_tied
      evaluate_tied (Two at o a b) w = tied_then (evaluate_tied a w) (λ x v. operate_tied at o x _ _ v (evaluate_tied b))
      evaluate_tied (FieldOf at object field) w =
          tied_then (evaluate_tied object w) (λ x v.
          reach_then at x v _ _ (λ u o p. known_tied (slice_get o.body.cells field) u))
      evaluate_tied (Length at array) w =
          tied_then (evaluate_tied array w) (λ x v.
          reach_then at x v _ _ (λ u o p. tied_same u _))
      evaluate_tied (Elem at array index) w =
          tied_then (evaluate_tied array w) (λ x v.
          tied_then (evaluate_tied index v) (λ i u.
          reach_then at x u _ _ (λ t o p.
          index_then at o.body i _ _ (λ n. known_tied (slice_get o.body.cells n) t))))
      evaluate_tied (Call at object class n args) w =
          tied_then (evaluate_tied object w) (λ x v.
          tied_then (evaluate_all_tied args v) (λ xs u.
          tied_then (call_on_tied at class n x xs u) known_tied))
      evaluate_tied (Make at class args tweaks) w =
          tied_then (evaluate_all_tied args w) (λ xs v.
          known_then (slice_get classes class) _ _ (λ k.
          tied_then (make_tied at (zero_object class k) v) (λ n t.
          tied_then (tweak_all_tied f n tweaks t) (λ x s. construct_tied at k.maker n xs s))))
      evaluate_tied (Array at k size) w = tied_then (evaluate_tied size w) (λ n v. make_array_tied at k n v)

      pub evaluate_all_tied : (es : TypedExpressions) (w : Work) → Tied K w (evaluate_all (left_world K classes) C f es w) (evaluate_all (right_world K classes) D f es w)
      evaluate_all_tied NoArg w = tied_same w _
      evaluate_all_tied (Arg front last) w =
          tied_then (evaluate_all_tied front w) (λ xs v. tied_then (evaluate_tied last v) (λ x u. tied_same u _))

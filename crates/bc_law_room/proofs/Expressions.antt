-- Expressions keep each newest copy like the body that the look-up gives.
use Rattle.std.proofs.Common.{ℕ, pos, negsuc, List, [], ◌∷◌}
use Rattle.std.specs.Prelude.{nat_le, slice_get, option_and_then, Option, Some, None}
use Rattle.bc_data.specs.Typed.{TypedExpression, Int, Truth, Null, Local, Neg, Not, Two, FieldOf, Length, Elem, Call, Make, Array, TypedExpressions, NoArg, Arg, TypedMethod}
use Rattle.bc_data.specs.declared.program.Op.{Op}
use Rattle.bc_data.specs.declared.program.Op.TheVariants as op
use Rattle.bc_data.specs.declared.program.Tweak.{Tweak}
use Rattle.bc_data.specs.declared.program.Tweak.TheVariants as tweak
use Rattle.bc_data.specs.declared.run.Body.{Body}
use Rattle.bc_data.specs.declared.run.FaultKind.TheVariants as fault
use Rattle.bc_data.specs.declared.run.Kind.{Kind}
use Rattle.bc_data.specs.declared.run.Place.{Place}
use Rattle.bc_data.specs.declared.run.Value.{Value}
use Rattle.bc_data.specs.declared.run.Value.TheVariants as value
use Rattle.bc_mean.specs.Values.{arithmetic, divides_by_zero}
use Rattle.bc_mean.specs.Work.{Look, Work, Got, and_then}
use Rattle.bc_mean.specs.Evaluate.{World, Frame, Calls, negate, invert, calculate, operate, index_of, within, index_in, tweak_one, tweak_all, zero_object, zero_array, construct, make_array, method_in, call_on, evaluate, evaluate_all}
use Rattle.bc_law_room.proofs.Steps.{Keeps, bind_keeps, choose_keeps, if_keeps, keeps_fault, keeps_same, keeps_then, keeps_wrong, known_keeps, known_then, made_then, make_keeps, reach_then, set_flag_keeps}

negate_keeps : {L : Look} (x : Value) (w : Work) → Keeps L w (negate x w)
negate_keeps (value.Int n) w = keeps_same w _
negate_keeps (value.Bool b) w = keeps_wrong w
negate_keeps value.Null w = keeps_wrong w
negate_keeps (value.Old id) w = keeps_wrong w
negate_keeps (value.New n) w = keeps_wrong w

invert_keeps : {L : Look} (x : Value) (w : Work) → Keeps L w (invert x w)
invert_keeps (value.Bool b) w = keeps_same w _
invert_keeps (value.Int n) w = keeps_wrong w
invert_keeps value.Null w = keeps_wrong w
invert_keeps (value.Old id) w = keeps_wrong w
invert_keeps (value.New n) w = keeps_wrong w

calculate_keeps : {L : Look} (at : Place) (o : Op) (x y : Value) (w : Work) → Keeps L w (calculate at o x y w)
calculate_keeps at o (value.Int a) (value.Int b) w =
    if_keeps (divides_by_zero o b) _ _ (keeps_fault w fault.Zero at) (known_keeps (arithmetic o a b) w)
calculate_keeps at o (value.Int a) (value.Bool b) w = keeps_wrong w
calculate_keeps at o (value.Int a) value.Null w = keeps_wrong w
calculate_keeps at o (value.Int a) (value.Old id) w = keeps_wrong w
calculate_keeps at o (value.Int a) (value.New n) w = keeps_wrong w
calculate_keeps at o (value.Bool b) y w = keeps_wrong w
calculate_keeps at o value.Null y w = keeps_wrong w
calculate_keeps at o (value.Old id) y w = keeps_wrong w
calculate_keeps at o (value.New n) y w = keeps_wrong w

operate_keeps : {L : Look} (at : Place) (o : Op) (x : Value) (operand : Work → Got Value) (w : Work) → ((v : Work) → Keeps L v (operand v)) → Keeps L w (operate at o x operand w)
operate_keeps at op.And x operand w t = choose_keeps x operand _ w (t w) (keeps_same w _)
operate_keeps at op.Or x operand w t = choose_keeps x _ operand w (keeps_same w _) (t w)
operate_keeps at op.Same x operand w t = keeps_then (t w) (λ y v. keeps_same v _)
operate_keeps at op.Differ x operand w t = keeps_then (t w) (λ y v. keeps_same v _)
operate_keeps at op.Less x operand w t = keeps_then (t w) (λ y v. calculate_keeps at op.Less x y v)
operate_keeps at op.LessEq x operand w t = keeps_then (t w) (λ y v. calculate_keeps at op.LessEq x y v)
operate_keeps at op.More x operand w t = keeps_then (t w) (λ y v. calculate_keeps at op.More x y v)
operate_keeps at op.MoreEq x operand w t = keeps_then (t w) (λ y v. calculate_keeps at op.MoreEq x y v)
operate_keeps at op.Add x operand w t = keeps_then (t w) (λ y v. calculate_keeps at op.Add x y v)
operate_keeps at op.Sub x operand w t = keeps_then (t w) (λ y v. calculate_keeps at op.Sub x y v)
operate_keeps at op.Mul x operand w t = keeps_then (t w) (λ y v. calculate_keeps at op.Mul x y v)
operate_keeps at op.Div x operand w t = keeps_then (t w) (λ y v. calculate_keeps at op.Div x y v)
operate_keeps at op.Rem x operand w t = keeps_then (t w) (λ y v. calculate_keeps at op.Rem x y v)

within_then : {A B : Type 0} {L : Look} {w : Work} (at : Place) (o : Option A) (go : A → Work → Got B) → ((x : A) → Keeps L w (go x w)) → Keeps L w (and_then (within at o w) go)
within_then {w = w} at None go k = keeps_fault w fault.Bounds at
within_then at (Some x) go k = k x

-- an index is found in the same work
pub index_then : {B : Type 0} {L : Look} {w : Work} (at : Place) (b : Body) (x : Value) (go : ℕ → Work → Got B) → ((n : ℕ) → Keeps L w (go n w)) → Keeps L w (and_then (index_in at b x w) go)
index_then at b (value.Int i) go k = within_then at (option_and_then (λ n. option_and_then (λ x. Some n) (slice_get b.cells n)) (index_of i)) go k
index_then {w = w} at b (value.Bool c) go k = keeps_wrong w
index_then {w = w} at b value.Null go k = keeps_wrong w
index_then {w = w} at b (value.Old id) go k = keeps_wrong w
index_then {w = w} at b (value.New n) go k = keeps_wrong w

tweak_one_keeps : {L : Look} (f : Frame) (n : ℕ) (t : Tweak) (w : Work) → Keeps L w (tweak_one f n t w)
tweak_one_keeps f n (tweak.Flag flag b) w = made_then n (slice_get w.made n) _ (λ o p. set_flag_keeps o flag b w p)
tweak_one_keeps f n (tweak.Add at variable) w =
    made_then n (slice_get w.made n) _ (λ o p. known_then (slice_get f.tags variable) _ (λ t. bind_keeps at o t w p))

tweak_all_keeps : {L : Look} (f : Frame) (n : ℕ) (ts : List Tweak) (w : Work) → Keeps L w (tweak_all f n ts w)
tweak_all_keeps f n [] w = keeps_same w tt
tweak_all_keeps f n (t ∷ ts) w = keeps_then (tweak_one_keeps f n t w) (λ x v. tweak_all_keeps f n ts v)

make_array_keeps : {L : Look} (at : Place) (k : Kind) (x : Value) (w : Work) → Keeps L w (make_array at k x w)
make_array_keeps at k (value.Int (pos n)) w =
    if_keeps (nat_le n 65536) _ _ (keeps_then (make_keeps at (zero_array k n) w) (λ i v. keeps_same v _)) (keeps_fault w fault.Size at)
make_array_keeps at k (value.Int (negsuc n)) w = keeps_fault w fault.Size at
make_array_keeps at k (value.Bool b) w = keeps_wrong w
make_array_keeps at k value.Null w = keeps_wrong w
make_array_keeps at k (value.Old id) w = keeps_wrong w
make_array_keeps at k (value.New n) w = keeps_wrong w

abbrev pub CallsKeep : Look → Calls → Type 0
CallsKeep L C = (at : Place) (m : TypedMethod) (xs : List Value) (w : Work) → Keeps L w (C at m xs w)

module _ (W : World) (C : Calls) (c : CallsKeep W.look C) where
  construct_keeps : (at : Place) (o : Option TypedMethod) (n : ℕ) (xs : List Value) (w : Work) → Keeps W.look w (construct C at o n xs w)
  construct_keeps at None n xs w = keeps_same w _
  construct_keeps at (Some m) n xs w = keeps_then (c at m (value.New n ∷ xs) w) (λ x v. keeps_same v _)

  pub call_on_keeps : (at : Place) (class n : ℕ) (x : Value) (xs : List Value) (w : Work) → Keeps W.look w (call_on W C at class n x xs w)
  call_on_keeps at class n x xs w =
      reach_then at x w _ (λ v o s. known_then (method_in W class n) _ (λ m. c at m (x ∷ xs) v))

  module _ (f : Frame) where
    mutual
      pub evaluate_keeps : (e : TypedExpression) (w : Work) → Keeps W.look w (evaluate W C f e w)
      evaluate_keeps (Int n) w = keeps_same w _
      evaluate_keeps (Truth b) w = keeps_same w _
      evaluate_keeps Null w = keeps_same w _
      evaluate_keeps (Local slot) w = known_keeps (slice_get f.slots slot) w
      evaluate_keeps (Neg e) w = keeps_then (evaluate_keeps e w) negate_keeps
      evaluate_keeps (Not e) w = keeps_then (evaluate_keeps e w) invert_keeps
      evaluate_keeps (Two at o a b) w = keeps_then (evaluate_keeps a w) (λ x v. operate_keeps at o x _ v (evaluate_keeps b))
      evaluate_keeps (FieldOf at object field) w =
          keeps_then (evaluate_keeps object w) (λ x v.
          reach_then at x v _ (λ u o p. known_keeps (slice_get o.body.cells field) u))
      evaluate_keeps (Length at array) w =
          keeps_then (evaluate_keeps array w) (λ x v.
          reach_then at x v _ (λ u o p. keeps_same u _))
      evaluate_keeps (Elem at array index) w =
          keeps_then (evaluate_keeps array w) (λ x v.
          keeps_then (evaluate_keeps index v) (λ i u.
          reach_then at x u _ (λ t o p.
          index_then at o.body i _ (λ n. known_keeps (slice_get o.body.cells n) t))))
      evaluate_keeps (Call at object class n args) w =
          keeps_then (evaluate_keeps object w) (λ x v.
          keeps_then (evaluate_all_keeps args v) (λ xs u.
          keeps_then (call_on_keeps at class n x xs u) known_keeps))
      evaluate_keeps (Make at class args tweaks) w =
          keeps_then (evaluate_all_keeps args w) (λ xs v.
          known_then (slice_get W.classes class) _ (λ k.
          keeps_then (make_keeps at (zero_object class k) v) (λ n t.
          keeps_then (tweak_all_keeps f n tweaks t) (λ x s. construct_keeps at k.maker n xs s))))
      evaluate_keeps (Array at k size) w = keeps_then (evaluate_keeps size w) (λ n v. make_array_keeps at k n v)

      pub evaluate_all_keeps : (es : TypedExpressions) (w : Work) → Keeps W.look w (evaluate_all W C f es w)
      evaluate_all_keeps NoArg w = keeps_same w _
      evaluate_all_keeps (Arg front last) w =
          keeps_then (evaluate_all_keeps front w) (λ xs v. keeps_then (evaluate_keeps last v) (λ x u. keeps_same u _))

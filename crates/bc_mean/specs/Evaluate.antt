-- What expressions come to. Operands are evaluated from left to right.
use Rattle.std.specs.Prelude.{ℕ, ℤ, pos, negsuc, neg_ℤ, true, false, not, if◌then◌else◌, nat_le, List, [], ◌∷◌, ◌++◌, length, map, replicate, slice_get, option_and_then, Option, Some, None}
use Rattle.std.specs.Int.{w32, int_wrap}
use Rattle.bc_data.specs.Limits.{longest_array}
use Rattle.bc_data.specs.declared.program.Field.{Field}
use Rattle.bc_data.specs.declared.program.Op.{Op}
use Rattle.bc_data.specs.declared.program.Op.TheVariants as op
use Rattle.bc_data.specs.declared.program.Tweak.{Tweak}
use Rattle.bc_data.specs.declared.program.Tweak.TheVariants as tweak
use Rattle.bc_data.specs.declared.run.Body.{Body}
use Rattle.bc_data.specs.declared.run.FaultKind.TheVariants as fault
use Rattle.bc_data.specs.declared.run.Kind.{Kind}
use Rattle.bc_data.specs.declared.run.Kind.TheVariants as kind
use Rattle.bc_data.specs.declared.run.Place.{Place}
use Rattle.bc_data.specs.declared.run.TagRef.{TagRef}
use Rattle.bc_data.specs.declared.run.Value.{Value}
use Rattle.bc_data.specs.declared.run.Value.TheVariants as value
use Rattle.bc_data.specs.Typed.{TypedExpression, Int, Truth, Null, Local, Neg, Not, Two, FieldOf, Length, Elem, Call, Make, Array, TypedExpressions, NoArg, Arg, TypedMethod, TypedClass}
use Rattle.bc_mean.specs.Values.{wrapped, arithmetic, divides_by_zero, same_value, zero_of, zero_in}
use Rattle.bc_mean.specs.Work.{Look, Work, Got, Gives, Stops, Wrong, and_then, faults, known, choose, made_one, reach, set_flag, bind, make}

-- what a run stands in: the bodies that are known, the program's classes, and the objects of the invocation's parameters
pub record World : Type 0 where
  pub look : Look
  pub classes : List TypedClass
  pub objects : List ℕ

-- the slots of the body that runs, and its tag variables
pub record Frame : Type 0 where
  pub slots : List Value
  pub tags : List TagRef

-- What a call does, from its turn on: the place, the method, and the values of its first slots. It may have a result.
abbrev pub Calls : Type 0
Calls = Place → TypedMethod → List Value → Work → Got (Option Value)

abbrev pub negate : Value → Work → Got Value
negate (value.Int n) w = Gives (wrapped (neg_ℤ n)) w
negate _ w = Stops Wrong w

abbrev pub invert : Value → Work → Got Value
invert (value.Bool b) w = Gives (value.Bool (not b)) w
invert _ w = Stops Wrong w

abbrev pub calculate : Place → Op → Value → Value → Work → Got Value
calculate at o (value.Int a) (value.Int b) w = if divides_by_zero o b then faults fault.Zero at w else known (arithmetic o a b) w
calculate at o _ _ w = Stops Wrong w

-- An operator on its left operand's value and its right operand, which `&&` and `||` may leave out.
abbrev pub operate : Place → Op → Value → (Work → Got Value) → Work → Got Value
operate at op.And x right w = choose x right (Gives (value.Bool false)) w
operate at op.Or x right w = choose x (Gives (value.Bool true)) right w
operate at op.Same x right w = and_then (right w) (λ y v. Gives (value.Bool (same_value x y)) v)
operate at op.Differ x right w = and_then (right w) (λ y v. Gives (value.Bool (not (same_value x y))) v)
operate at op.Less x right w = and_then (right w) (λ y v. calculate at op.Less x y v)
operate at op.LessEq x right w = and_then (right w) (λ y v. calculate at op.LessEq x y v)
operate at op.More x right w = and_then (right w) (λ y v. calculate at op.More x y v)
operate at op.MoreEq x right w = and_then (right w) (λ y v. calculate at op.MoreEq x y v)
operate at op.Add x right w = and_then (right w) (λ y v. calculate at op.Add x y v)
operate at op.Sub x right w = and_then (right w) (λ y v. calculate at op.Sub x y v)
operate at op.Mul x right w = and_then (right w) (λ y v. calculate at op.Mul x y v)
operate at op.Div x right w = and_then (right w) (λ y v. calculate at op.Div x y v)
operate at op.Rem x right w = and_then (right w) (λ y v. calculate at op.Rem x y v)

-- no cell has a number below 0
abbrev pub index_of : ℤ → Option ℕ
index_of (pos n) = Some n
index_of (negsuc n) = None

-- something at an index, or a fault of bounds
abbrev pub within : {A : Type 0} → Place → Option A → Work → Got A
within at None w = faults fault.Bounds at w
within at (Some x) w = Gives x w

-- the index of an element that an array has
abbrev pub index_in : Place → Body → Value → Work → Got ℕ
index_in at b (value.Int i) w =
    within at (option_and_then (λ n. option_and_then (λ x. Some n) (slice_get b.cells n)) (index_of i)) w
index_in at b _ w = Stops Wrong w

-- an action in the braces of a `new` on the new object with this number
abbrev pub tweak_one : Frame → ℕ → Tweak → Work → Got (Unit {0})
tweak_one f n (tweak.Flag flag b) w = and_then (made_one n (slice_get w.made n) w) (λ o v. set_flag o flag b v)
tweak_one f n (tweak.Add at variable) w =
    and_then (made_one n (slice_get w.made n) w) (λ o v. and_then (known (slice_get f.tags variable) v) (λ t u. bind at o t u))

abbrev pub tweak_all : Frame → ℕ → List Tweak → Work → Got (Unit {0})
tweak_all f n [] w = Gives tt w
tweak_all f n (t ∷ ts) w = and_then (tweak_one f n t w) (λ _ v. tweak_all f n ts v)

-- an object of a class at first
abbrev pub zero_object : ℕ → TypedClass → Body
zero_object c k = record { kind = kind.Class c; cells = map (λ (x : Field). zero_of x.shape) k.fields; flags = 0; tags = [] }

abbrev pub zero_array : Kind → ℕ → Body
zero_array k n = record { kind = k; cells = replicate n (zero_in k); flags = 0; tags = [] }

-- where the class has a constructor it runs, and then there is the new object
abbrev pub construct : Calls → Place → Option TypedMethod → ℕ → List Value → Work → Got Value
construct C at None n xs w = Gives (value.New n) w
construct C at (Some m) n xs w = and_then (C at m (value.New n ∷ xs) w) (λ _ v. Gives (value.New n) v)

-- A new array has 0 to 65,536 elements.
abbrev pub make_array : Place → Kind → Value → Work → Got Value
make_array at k (value.Int (pos n)) w =
    if nat_le n longest_array then and_then (make at (zero_array k n) w) (λ i v. Gives (value.New i) v) else faults fault.Size at w
make_array at k (value.Int (negsuc n)) w = faults fault.Size at w
make_array at k _ w = Stops Wrong w

abbrev pub method_in : World → ℕ → ℕ → Option TypedMethod
method_in W c n = option_and_then (λ (k : TypedClass). slice_get k.methods n) (slice_get W.classes c)

-- a call on an object's value: the test for `null`, the touch, then the call itself
abbrev pub call_on : World → Calls → Place → ℕ → ℕ → Value → List Value → Work → Got (Option Value)
call_on W C at c n x xs w =
    and_then (reach W.look at x w) (λ o v. and_then (known (method_in W c n) v) (λ m u. C at m (x ∷ xs) u))

abbrev mutual
  pub evaluate : World → Calls → Frame → TypedExpression → Work → Got Value
  evaluate W C f (Int n) w = Gives (value.Int (int_wrap w32 n)) w
  evaluate W C f (Truth b) w = Gives (value.Bool b) w
  evaluate W C f Null w = Gives value.Null w
  evaluate W C f (Local slot) w = known (slice_get f.slots slot) w
  evaluate W C f (Neg e) w = and_then (evaluate W C f e w) negate
  evaluate W C f (Not e) w = and_then (evaluate W C f e w) invert
  evaluate W C f (Two at o a b) w = and_then (evaluate W C f a w) (λ x v. operate at o x (evaluate W C f b) v)
  -- the object, the test for `null`, the touch
  evaluate W C f (FieldOf at object field) w =
      and_then (evaluate W C f object w) (λ x v.
      and_then (reach W.look at x v) (λ o u. known (slice_get o.body.cells field) u))
  evaluate W C f (Length at array) w =
      and_then (evaluate W C f array w) (λ x v.
      and_then (reach W.look at x v) (λ o u. Gives (value.Int (pos (length o.body.cells))) u))
  -- the array, the index, the test for `null`, the touch, the bounds
  evaluate W C f (Elem at array index) w =
      and_then (evaluate W C f array w) (λ x v.
      and_then (evaluate W C f index v) (λ i u.
      and_then (reach W.look at x u) (λ o t.
      and_then (index_in at o.body i t) (λ n s. known (slice_get o.body.cells n) s))))
  -- the object, the arguments, the test for `null`, the touch, the call
  evaluate W C f (Call at object c n args) w =
      and_then (evaluate W C f object w) (λ x v.
      and_then (evaluate_all W C f args v) (λ xs u.
      and_then (call_on W C at c n x xs u) known))
  -- the arguments, the object with its sizes, the braces, the constructor
  evaluate W C f (Make at c args tweaks) w =
      and_then (evaluate_all W C f args w) (λ xs v.
      and_then (known (slice_get W.classes c) v) (λ k u.
      and_then (make at (zero_object c k) u) (λ n t.
      and_then (tweak_all f n tweaks t) (λ _ s. construct C at k.maker n xs s))))
  evaluate W C f (Array at k size) w = and_then (evaluate W C f size w) (λ n v. make_array at k n v)

  pub evaluate_all : World → Calls → Frame → TypedExpressions → Work → Got (List Value)
  evaluate_all W C f NoArg w = Gives [] w
  evaluate_all W C f (Arg front last) w =
      and_then (evaluate_all W C f front w) (λ xs v. and_then (evaluate W C f last v) (λ x u. Gives (xs ++ x ∷ []) u))

-- What the machine does with an instruction. The steps are those of the meaning; the machine has the control.
use Rattle.std.specs.Prelude.{ℕ, zero, suc, ◌+◌, ◌-◌, pos, not, List, [], ◌∷◌, ◌++◌, length, map, replicate, slice_get, option_and_then, Option, Some, None}
use Rattle.std.specs.Int.{w32, int_wrap}
use Rattle.bc_data.specs.declared.program.Op.{Op}
use Rattle.bc_data.specs.declared.program.Op.TheVariants as op
use Rattle.bc_data.specs.declared.run.Body.{Body}
use Rattle.bc_data.specs.declared.run.Invocation.{Invocation}
use Rattle.bc_data.specs.declared.run.Kind.TheVariants as kind
use Rattle.bc_data.specs.declared.run.Place.{Place}
use Rattle.bc_data.specs.declared.run.TagRef.TheVariants as tag
use Rattle.bc_data.specs.declared.run.Value.{Value}
use Rattle.bc_data.specs.declared.run.Value.TheVariants as value
use Rattle.bc_mean.specs.Work.{Look, Work, Got, Gives, Stops, Wrong, Reached, and_then, known, choose, made_one, parameter, reach, say, turn, enter, set_flag, bind, unbind, make, make_instance}
use Rattle.bc_mean.specs.Evaluate.{Frame, negate, invert, calculate, index_in, make_array}
use Rattle.bc_mean.specs.Execute.{say_number, say_truth, assert_true, set_slot, set_tag, write_cell}
use Rattle.bc_mean.specs.Values.{same_value}
use Rattle.bc_mean.specs.Outcome.{work_at_start}
use Rattle.bc_code.specs.declared.code.Instruction.{Instruction}
use Rattle.bc_code.specs.declared.code.Instruction.TheVariants as instruction
use Rattle.bc_code.specs.declared.code.Unit.{Unit as CodeUnit}
use Rattle.bc_code.specs.declared.code.ClassCode.{ClassCode}
use Rattle.bc_code.specs.declared.code.Code.{Code}

-- what the machine reads: the bodies that are known, and the objects of the invocation's parameters
pub record Reads : Type 0 where
  pub look : Look
  pub objects : List ℕ

-- a call that is not over: its unit, its next instruction, and its slots and tag variables
pub record Activation : Type 0 where
  pub unit : ℕ
  pub next : ℕ
  pub frame : Frame

-- The calls around the current one begin with the one that made it. There is one stack of values, with its top in front.
pub record State : Type 0 where
  pub current : Activation
  pub callers : List Activation
  pub stack : List Value
  pub work : Work

-- the machine goes on, is over with an exit or a halt, or has no rule
pub data Did : Type 0 where
  On : (s : State) → Did
  Over : (g : Got (Unit {0})) → Did
  Stuck : Did

abbrev pub goes : {A : Type 0} → Got A → (A → Work → Did) → Did
goes (Gives x w) k = k x w
goes (Stops h w) k = Over (Stops h w)

abbrev pub on_one : List Value → (Value → List Value → Did) → Did
on_one [] k = Stuck
on_one (x ∷ st) k = k x st

-- the second value below the top, and the top
abbrev pub on_two : List Value → (Value → Value → List Value → Did) → Did
on_two st k = on_one st (λ y rest. on_one rest (λ x more. k x y more))

abbrev pub on_three : List Value → (Value → Value → Value → List Value → Did) → Did
on_three st k = on_one st (λ z rest. on_two rest (λ x y more. k x y z more))

-- so many values off the stack, in the order in which they were put there
abbrev pub taken : ℕ → List Value → List Value → (List Value → List Value → Did) → Did
taken zero xs st k = k xs st
taken (suc n) xs [] k = Stuck
taken (suc n) xs (x ∷ st) k = taken n (x ∷ xs) st k

-- goes on at an instruction of the same unit
abbrev pub at : State → ℕ → List Value → Work → Did
at s p st w = On (record s { current = record s.current { next = p }; stack = st; work = w })

abbrev pub next : State → List Value → Work → Did
next s st w = at s (s.current.next + 1) st w

-- goes on behind the instruction, with these slots and tag variables
abbrev pub next_in : State → Frame → List Value → Work → Did
next_in s f st w = On (record s { current = record { unit = s.current.unit; next = s.current.next + 1; frame = f }; stack = st; work = w })

-- The operands of an operator are the two values on top.
abbrev pub calculated : Place → Op → State → Did
calculated p o s = on_two s.stack (λ x y st. goes (calculate p o x y s.work) (λ z w. next s (z ∷ st) w))

abbrev pub jumped : Value → ℕ → ℕ → State → List Value → Did
jumped x one other s st = goes (choose x (Gives one) (Gives other) s.work) (λ p w. at s p st w)

-- the object that an invocation made
abbrev pub new_object : Value → Work → Got Reached
new_object (value.New n) w = made_one n (slice_get w.made n) w
new_object (value.Old id) w = Stops Wrong w
new_object value.Null w = Stops Wrong w
new_object (value.Int n) w = Stops Wrong w
new_object (value.Bool b) w = Stops Wrong w

-- an object of a class at first
abbrev pub new_body : ℕ → ClassCode → Body
new_body c k = record { kind = kind.Class c; cells = k.cells; flags = 0; tags = [] }

abbrev pub maker_of : Code → ℕ → Option ℕ
maker_of code c = option_and_then (λ (k : ClassCode). k.maker) (slice_get code.classes c)

abbrev pub method_of : Code → ℕ → ℕ → Option ℕ
method_of code c n = option_and_then (λ (k : ClassCode). Some (k.methods + n)) (slice_get code.classes c)

-- The first slots of a unit are `this` and the arguments, and the others 0 until they are set.
abbrev pub unit_frame : CodeUnit → List Value → Frame
unit_frame u xs = record { slots = xs ++ replicate (u.locals - length xs) (value.Int (pos 0)); tags = [] }

abbrev pub enter_unit : ℕ → Option CodeUnit → List Value → List Activation → List Value → Work → Did
enter_unit n None xs callers st w = Stuck
enter_unit n (Some u) xs callers st w =
    On (record { current = record { unit = n; next = 0; frame = unit_frame u xs }; callers = callers; stack = st; work = w })

-- a call of the unit with this number, if there is one
abbrev pub called : Code → Option ℕ → List Value → List Activation → List Value → Work → Did
called code None xs callers st w = Stuck
called code (Some n) xs callers st w = enter_unit n (slice_get code.units n) xs callers st w

-- the current call, to be gone on with behind its instruction
abbrev pub behind : State → Activation
behind s = record s.current { next = s.current.next + 1 }

-- the current call is over
abbrev pub left : List Activation → List Value → Work → Did
left [] st w = Over (Gives tt w)
left (a ∷ more_callers) st w = On (record { current = a; callers = more_callers; stack = st; work = w })

-- an action of an exit on the object of a parameter
abbrev pub exit_action : Reads → ℕ → (Reached → Work → Got (Unit {0})) → State → Did
exit_action R p act s = goes (and_then (parameter R.look (slice_get R.objects p) s.work) act) (λ _ w. next s s.stack w)

-- the rule of an instruction, with the place of its fault
abbrev pub rule : Reads → Code → Place → Instruction → State → Did
rule R code p (instruction.Int n) s = next s (value.Int (int_wrap w32 n) ∷ s.stack) s.work
rule R code p (instruction.Bool b) s = next s (value.Bool b ∷ s.stack) s.work
rule R code p instruction.Null s = next s (value.Null ∷ s.stack) s.work
rule R code p (instruction.Load n) s = goes (known (slice_get s.current.frame.slots n) s.work) (λ x w. next s (x ∷ s.stack) w)
rule R code p (instruction.Store n) s = on_one s.stack (λ x st. next_in s (set_slot s.current.frame n x) st s.work)
rule R code p instruction.Pop s = on_one s.stack (λ x st. next s st s.work)
rule R code p instruction.Neg s = on_one s.stack (λ x st. goes (negate x s.work) (λ y w. next s (y ∷ st) w))
rule R code p instruction.Not s = on_one s.stack (λ x st. goes (invert x s.work) (λ y w. next s (y ∷ st) w))
rule R code p instruction.Add s = calculated p op.Add s
rule R code p instruction.Sub s = calculated p op.Sub s
rule R code p instruction.Mul s = calculated p op.Mul s
rule R code p instruction.Div s = calculated p op.Div s
rule R code p instruction.Rem s = calculated p op.Rem s
rule R code p instruction.Less s = calculated p op.Less s
rule R code p instruction.LessEq s = calculated p op.LessEq s
rule R code p instruction.More s = calculated p op.More s
rule R code p instruction.MoreEq s = calculated p op.MoreEq s
rule R code p instruction.Same s = on_two s.stack (λ x y st. next s (value.Bool (same_value x y) ∷ st) s.work)
rule R code p instruction.Differ s = on_two s.stack (λ x y st. next s (value.Bool (not (same_value x y)) ∷ st) s.work)
rule R code p (instruction.Jump t) s = at s t s.stack s.work
rule R code p (instruction.JumpIf t) s = on_one s.stack (λ x st. jumped x t (s.current.next + 1) s st)
rule R code p (instruction.JumpIfNot t) s = on_one s.stack (λ x st. jumped x (s.current.next + 1) t s st)
rule R code p instruction.Turn s = goes (turn p s.work) (λ _ w. next s s.stack w)
rule R code p (instruction.Field f) s =
    on_one s.stack (λ x st. goes (and_then (reach R.look p x s.work) (λ o w. known (slice_get o.body.cells f) w)) (λ y v. next s (y ∷ st) v))
rule R code p (instruction.SetField f) s =
    on_two s.stack (λ x y st. goes (and_then (reach R.look p x s.work) (λ o w. write_cell o f y w)) (λ _ v. next s st v))
rule R code p instruction.Length s =
    on_one s.stack (λ x st. goes (reach R.look p x s.work) (λ o w. next s (value.Int (pos (length o.body.cells)) ∷ st) w))
rule R code p instruction.Elem s =
    on_two s.stack (λ x i st.
    goes (and_then (reach R.look p x s.work) (λ o w. and_then (index_in p o.body i w) (λ n v. known (slice_get o.body.cells n) v)))
    (λ y u. next s (y ∷ st) u))
rule R code p instruction.SetElem s =
    on_three s.stack (λ x i y st.
    goes (and_then (reach R.look p x s.work) (λ o w. and_then (index_in p o.body i w) (λ n v. write_cell o n y v))) (λ _ u. next s st u))
rule R code p (instruction.NewObject c) s =
    goes (and_then (known (slice_get code.classes c) s.work) (λ k w. make p (new_body c k) w)) (λ n v. next s (value.New n ∷ s.stack) v)
rule R code p (instruction.NewArray k) s = on_one s.stack (λ n st. goes (make_array p k n s.work) (λ x w. next s (x ∷ st) w))
rule R code p (instruction.SetFlag f b) s =
    on_one s.stack (λ x st. goes (and_then (new_object x s.work) (λ o w. set_flag o f b w)) (λ _ v. next s s.stack v))
rule R code p (instruction.AddTag variable) s =
    on_one s.stack (λ x st.
    goes (and_then (new_object x s.work) (λ o w. and_then (known (slice_get s.current.frame.tags variable) w) (λ t v. bind p o t v)))
    (λ _ u. next s s.stack u))
rule R code p (instruction.Make c n) s =
    on_one s.stack (λ x rest.
    taken n [] rest (λ xs st. goes (enter p (length s.callers) s.work) (λ _ w. called code (maker_of code c) (x ∷ xs) (behind s ∷ s.callers) (x ∷ st) w)))
rule R code p (instruction.Call c m n) s =
    taken n [] s.stack (λ xs rest.
    on_one rest (λ x st.
    goes (and_then (reach R.look p x s.work) (λ o w. enter p (length s.callers) w)) (λ _ v. called code (method_of code c m) (x ∷ xs) (behind s ∷ s.callers) st v)))
rule R code p instruction.Return s = left s.callers s.stack s.work
rule R code p instruction.ReturnValue s = left s.callers s.stack s.work
rule R code p (instruction.PrintText bytes) s = goes (say p bytes s.work) (λ _ w. next s s.stack w)
rule R code p instruction.PrintInt s = on_one s.stack (λ x st. goes (say_number p x s.work) (λ _ w. next s st w))
rule R code p instruction.PrintBool s = on_one s.stack (λ x st. goes (say_truth p x s.work) (λ _ w. next s st w))
rule R code p instruction.Assert s = on_one s.stack (λ x st. goes (assert_true p x s.work) (λ _ w. next s st w))
rule R code p (instruction.NewTag variable tag_type) s =
    goes (make_instance p tag_type s.work) (λ i w. next_in s (set_tag s.current.frame variable (tag.New i)) s.stack w)
rule R code p (instruction.ExitFlag n f b) s = exit_action R n (λ o w. set_flag o f b w) s
rule R code p (instruction.ExitClear n variable) s =
    exit_action R n (λ o w. and_then (known (slice_get s.current.frame.tags variable) w) (λ t v. unbind o t v)) s
rule R code p (instruction.ExitAdd n variable) s =
    exit_action R n (λ o w. and_then (known (slice_get s.current.frame.tags variable) w) (λ t v. bind p o t v)) s
rule R code p instruction.Exit s = Over (Gives tt s.work)

-- an instruction that meets no fault has this place
abbrev pub nowhere : Place
nowhere = record { line = 0; column = 0 }

abbrev pub place_or : Option Place → Place
place_or None = nowhere
place_or (Some p) = p

abbrev pub on_instruction : Reads → Code → Place → Option Instruction → State → Did
on_instruction R code p None s = Stuck
on_instruction R code p (Some i) s = rule R code p i s

abbrev pub in_unit : Reads → Code → Option CodeUnit → State → Did
in_unit R code None s = Stuck
in_unit R code (Some u) s = on_instruction R code (place_or (slice_get u.places s.current.next)) (slice_get u.code s.current.next) s

-- one instruction
abbrev pub step : Reads → Code → State → Did
step R code s = in_unit R code (slice_get code.units s.current.unit) s

abbrev pub next_of : Reads → Code → Did → Did
next_of R code (On s) = step R code s
next_of R code (Over g) = Over g
next_of R code Stuck = Stuck

-- so many instructions more
abbrev pub more : Reads → Code → ℕ → Did → Did
more R code zero d = d
more R code (suc n) d = more R code n (next_of R code d)

-- The first slots of a task are its parameters, and its first tag variables those that the parameters bind.
abbrev pub first_frame : CodeUnit → Invocation → Frame
first_frame u v = record {
  slots = map value.Old v.objects ++ replicate (u.locals - length v.objects) (value.Int (pos 0));
  tags = map tag.Old v.tags ++ replicate (u.tags - length v.tags) (tag.New 0);
}

abbrev pub start_in : Option CodeUnit → Invocation → Did
start_in None v = Stuck
start_in (Some u) v =
    On (record { current = record { unit = v.task; next = 0; frame = first_frame u v }; callers = []; stack = []; work = work_at_start v })

-- the machine before the first instruction of an invocation
abbrev pub start : Code → Invocation → Did
start code v = start_in (slice_get code.units v.task) v

-- The terms, the classes and the store of the worked examples of expressions and statements.
use Rattle.std.specs.Prelude.{ℕ, ℤ, pos, neg_ℤ, false, true, List, [], ◌∷◌, map, None, Some, codes}
use Rattle.std.specs.List.{range_with_len}
use Rattle.bc_data.specs.declared.program.Op.TheVariants as op
use Rattle.bc_data.specs.declared.program.Shape.TheVariants as shape
use Rattle.bc_data.specs.declared.program.Tweak.{Tweak}
use Rattle.bc_data.specs.declared.program.Tweak.TheVariants as tweak
use Rattle.bc_data.specs.declared.run.Body.{Body}
use Rattle.bc_data.specs.declared.run.Kind.{Kind}
use Rattle.bc_data.specs.declared.run.Kind.TheVariants as kind
use Rattle.bc_data.specs.declared.run.Place.{Place}
use Rattle.bc_data.specs.declared.run.TagRef.{TagRef}
use Rattle.bc_data.specs.declared.run.TagRef.TheVariants as tag
use Rattle.bc_data.specs.declared.run.Value.{Value}
use Rattle.bc_data.specs.declared.run.Value.TheVariants as value
use Rattle.bc_data.specs.Typed.{TypedExpression, Int, Truth, Local, Two, FieldOf, Elem, Call, Make, Array, NoArg, Arg, TypedStatement, Set, SetField, SetElem, If, While, Return, TypedStatements, Nothing, Then, TypedMethod, TypedClass}
use Rattle.bc_mean.specs.declared.plain.Plain.{Plain}
use Rattle.bc_mean.specs.Work.{Work, look_of}
use Rattle.bc_mean.specs.Evaluate.{World, Frame}

abbrev pub minus : ℕ → ℤ
minus n = neg_ℤ (pos n)

-- the least number of 32 bits, and the greatest
abbrev pub least : ℤ
least = minus 2147483648

abbrev pub greatest : ℤ
greatest = pos 2147483647

-- a place of the first line
abbrev pub place : ℕ → Place
place n = record { line = 1; column = n }

-- 1 / 0
abbrev pub one_by_zero : Place → TypedExpression
one_by_zero at = Two at op.Div (Int (pos 1)) (Int (pos 0))

-- (1 / 0) == 0
abbrev pub faulty_truth : TypedExpression
faulty_truth = Two (place 9) op.Same (one_by_zero (place 7)) (Int (pos 0))

-- one statement, and two in order
abbrev pub one : TypedStatement → TypedStatements
one s = Then Nothing s

abbrev pub two : TypedStatement → TypedStatement → TypedStatements
two s t = Then (Then Nothing s) t

-- int get() { return this.number; }
abbrev pub get : TypedMethod
get = record {
  name = codes "get";
  formals = [];
  locals = 1;
  result = Some shape.Int;
  body = one (Return (Some (FieldOf (place 32) (Local 0) 0)));
}

-- void idle() {}
abbrev pub idle : TypedMethod
idle = record { name = codes "idle"; formals = []; locals = 1; result = None; body = Nothing }

-- int first() { while (true) { return 4; } return 5; }
abbrev pub first : TypedMethod
first = record {
  name = codes "first";
  formals = [];
  locals = 1;
  result = Some shape.Int;
  body = two (While (place 16) (Truth true) (one (Return (Some (Int (pos 4)))))) (Return (Some (Int (pos 5))));
}

-- int sum(int k) { if (k == 0) { return 0; } return k + this.sum(k - 1); }
abbrev pub sum : TypedMethod
sum = record {
  name = codes "sum";
  formals = shape.Int ∷ [];
  locals = 2;
  result = Some shape.Int;
  body =
      two (If (Two (place 24) op.Same (Local 1) (Int (pos 0))) (one (Return (Some (Int (pos 0))))) Nothing)
      (Return (Some (Two (place 53) op.Add (Local 1) (Call (place 59) (Local 0) 0 3 (Arg NoArg (Two (place 66) op.Sub (Local 1) (Int (pos 1))))))));
}

-- void put(int k) { this.number = k; }, which makes a constructor too
abbrev pub put : TypedMethod
put = record {
  name = codes "put";
  formals = shape.Int ∷ [];
  locals = 2;
  result = None;
  body = one (SetField (place 23) (Local 0) 0 (Local 1));
}

-- int less(int a, int b) { return a - b; }
abbrev pub less : TypedMethod
less = record {
  name = codes "less";
  formals = shape.Int ∷ shape.Int ∷ [];
  locals = 3;
  result = Some shape.Int;
  body = one (Return (Some (Two (place 36) op.Sub (Local 1) (Local 2))));
}

-- a class with the fields `number`, `truth` and `next`
abbrev pub item_class : TypedClass
item_class = record {
  name = codes "Item";
  flags = codes "f" ∷ codes "g" ∷ [];
  fields =
      record { name = codes "number"; shape = shape.Int }
      ∷ record { name = codes "truth"; shape = shape.Bool }
      ∷ record { name = codes "next"; shape = shape.Class 0 }
      ∷ [];
  maker = None;
  methods = get ∷ idle ∷ first ∷ sum ∷ put ∷ less ∷ [];
}

-- a class whose constructor stores `this` in the one field
abbrev pub knot_class : TypedClass
knot_class = record {
  name = codes "Knot";
  flags = codes "f" ∷ [];
  fields = record { name = codes "self"; shape = shape.Class 1 } ∷ [];
  maker = Some (record { name = codes "Knot"; formals = []; locals = 1; result = None; body = one (SetField (place 18) (Local 0) 0 (Local 0)) });
  methods = [];
}

-- a class whose constructor stores its argument in the one field
abbrev pub box_class : TypedClass
box_class = record {
  name = codes "Box";
  flags = [];
  fields = record { name = codes "number"; shape = shape.Int } ∷ [];
  maker = Some put;
  methods = [];
}

-- an item with this number and these instances
abbrev pub item_of : ℤ → List TagRef → Body
item_of n tags = record { kind = kind.Class 0; cells = value.Int n ∷ value.Bool true ∷ value.Null ∷ []; flags = 0; tags = tags }

abbrev pub ints_of : List ℤ → Body
ints_of ns = record { kind = kind.Ints; cells = map value.Int ns; flags = 0; tags = [] }

-- so many instances from this one on
abbrev pub old_tags : ℕ → ℕ → List TagRef
old_tags from n = map tag.Old (range_with_len from n)

-- an item, an array, an item with three instances, and one with as many as it may have
abbrev pub store : Plain
store = record {
  bodies = item_of (pos 7) [] ∷ ints_of (pos 10 ∷ pos 20 ∷ pos 30 ∷ []) ∷ item_of (pos 8) (old_tags 0 3) ∷ item_of (pos 9) (old_tags 0 16) ∷ [];
  tags = map (λ t. 0) (range_with_len 0 17);
  output = [];
}

-- The parameters' objects are the two with instances.
abbrev pub world : World
world = record { look = look_of store; classes = item_class ∷ knot_class ∷ box_class ∷ []; objects = 2 ∷ 3 ∷ [] }

-- two names of one item, the array, and a number; and instances, of which the last is bound to no object
abbrev pub frame : Frame
frame = record { slots = value.Old 0 ∷ value.Old 0 ∷ value.Old 1 ∷ value.Int (pos 3) ∷ []; tags = tag.Old 0 ∷ tag.Old 1 ∷ tag.Old 16 ∷ [] }

abbrev pub item : TypedExpression
item = Local 0

abbrev pub alias : TypedExpression
alias = Local 1

abbrev pub array : TypedExpression
array = Local 2

abbrev pub counter : TypedExpression
counter = Local 3

-- nothing done yet, and so many turns left
abbrev pub before : ℕ → Work
before n = record { changed = []; made = []; instances = []; text = []; turns = n; touched = [] }

-- these objects touched and nothing else done
abbrev pub touching : List ℕ → ℕ → Work
touching ids n = record (before n) { touched = ids }

-- an object of the store touched, with this body now
abbrev pub writing : ℕ → Body → ℕ → Work
writing id b n = record (before n) { changed = record { id = id; body = b } ∷ []; touched = id ∷ [] }

-- these new objects made and nothing else done
abbrev pub making : List Body → ℕ → Work
making bodies n = record (before n) { made = bodies }

abbrev pub number_of : TypedExpression → TypedExpression
number_of e = FieldOf (place 2) e 0

abbrev pub element : ℤ → TypedExpression
element i = Elem (place 6) array (Int i)

abbrev pub set_number : TypedExpression → ℤ → TypedStatement
set_number e n = SetField (place 2) e 0 (Int n)

abbrev pub set_element : ℤ → ℤ → TypedStatement
set_element i n = SetElem (place 6) array (Int i) (Int n)

-- a frame with a new object
abbrev pub new_frame : Frame
new_frame = record { slots = value.New 0 ∷ []; tags = [] }

-- calls of the methods of an item
abbrev pub call_get : Place → TypedExpression
call_get at = Call at item 0 0 NoArg

abbrev pub call_idle : TypedExpression
call_idle = Call (place 2) item 0 1 NoArg

abbrev pub call_first : TypedExpression
call_first = Call (place 2) item 0 2 NoArg

abbrev pub call_sum : ℕ → TypedExpression
call_sum k = Call (place 2) item 0 3 (Arg NoArg (Int (pos k)))

abbrev pub call_put : TypedExpression → TypedExpression
call_put e = Call (place 2) item 0 4 (Arg NoArg e)

abbrev pub call_less : ℕ → ℕ → TypedExpression
call_less a b = Call (place 2) item 0 5 (Arg (Arg NoArg (Int (pos a))) (Int (pos b)))

-- while (0 < counter) { counter = counter - 1; }
abbrev pub count_down : TypedStatement
count_down =
    While (place 1) (Two (place 10) op.Less (Int (pos 0)) counter) (one (Set 3 (Two (place 36) op.Sub counter (Int (pos 1)))))

-- a new item with these flags and instances
abbrev pub new_item : ℕ → List TagRef → Body
new_item flags tags = record { kind = kind.Class 0; cells = value.Int (pos 0) ∷ value.Bool false ∷ value.Null ∷ []; flags = flags; tags = tags }

abbrev pub new_knot : Value → Body
new_knot x = record { kind = kind.Class 1; cells = x ∷ []; flags = 0; tags = [] }

abbrev pub new_box : ℤ → Body
new_box n = record { kind = kind.Class 2; cells = value.Int n ∷ []; flags = 0; tags = [] }

abbrev pub new_array : Kind → List Value → Body
new_array k cells = record { kind = k; cells = cells; flags = 0; tags = [] }

-- a new item with these braces
abbrev pub item_with : List Tweak → TypedExpression
item_with tweaks = Make (place 1) 0 NoArg tweaks

abbrev pub array_of : Kind → ℤ → TypedExpression
array_of k n = Array (place 1) k (Int n)

-- a frame with 17 instances, and braces that add them all
abbrev pub tagged_frame : Frame
tagged_frame = record { slots = []; tags = old_tags 0 17 }

abbrev pub add_all : List Tweak
add_all = map (λ v. tweak.Add (place v) v) (range_with_len 0 17)

-- an object of a parameter with these instances now, which takes no touch
abbrev pub rebound : ℕ → ℤ → List TagRef → ℕ → Work
rebound id n tags turns = record (before turns) { changed = record { id = id; body = item_of n tags } ∷ [] }

-- this text printed and nothing else done
abbrev pub printing : List ℕ → ℕ → Work
printing text turns = record (before turns) { text = text }

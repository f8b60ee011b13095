-- The code and the type of an expression, or its first fault. The lines of a `do` stand in the order of the tests: the children
-- of a node from left to right, then the node.
use Rattle.std.specs.Prelude.{ℕ, Bool, ◌&&◌, ◌||◌, ◌==◌, is_some, length, List, [], ◌∷◌, ◌++◌, Option, Some, None}
use Rattle.bc_data.specs.SourceTree.{Expression, Int, Truth, Null, This, Var, Group, Neg, Not, Two, Field, Length, Elem, Call, Make, Array, Expressions, NoArg, Arg}
use Rattle.bc_data.specs.declared.tree.Named.{Named}
use Rattle.bc_data.specs.declared.tree.Base.{Base}
use Rattle.bc_data.specs.declared.tree.Base.TheVariants as base
use Rattle.bc_data.specs.declared.tree.ActionText.{ActionText}
use Rattle.bc_data.specs.declared.tree.ActionText.TheVariants as action
use Rattle.bc_data.specs.declared.run.Place.{Place}
use Rattle.bc_data.specs.declared.run.Kind as run_kind
use Rattle.bc_data.specs.declared.run.Kind.TheVariants as array_kind
use Rattle.bc_data.specs.declared.program.Op.{Op}
use Rattle.bc_data.specs.declared.program.Op.TheVariants as op
use Rattle.bc_data.specs.declared.program.Shape.{Shape}
use Rattle.bc_data.specs.declared.program.Shape.TheVariants as shape
use Rattle.bc_data.specs.declared.program.Tweak.{Tweak}
use Rattle.bc_data.specs.declared.program.Tweak.TheVariants as tweak
use Rattle.bc_data.specs.Shapes.{result_shape, shape_of_kind}
use Rattle.bc_types_rules.specs.Got.{Got, Gives, Fails, Unknown, Mismatch, Arity, Misplaced, ask, find, ◌>>=◌, ◌>>◌}
use Rattle.bc_types_rules.specs.Numbering.{try_fold}
use Rattle.bc_data.specs.Typed as typed
use Rattle.bc_data.specs.Typed.{TypedExpression, TypedExpressions}
use Rattle.bc_types_rules.specs.Context.{ValueType, Known, Names, Context, Meaning, SlotIs, ParameterIs, TagIs, Scope, meaning_of, tag_variable_at, fits, is_int, is_bool, element_of, class_before, field_at}

-- the place of an expression: its token, its operator, its `.` or `[`, its `new` or its `(`
abbrev pub place_of : Expression → Place
place_of (Int at n) = at
place_of (Truth at b) = at
place_of (Null at) = at
place_of (This at) = at
place_of (Var x) = x.at
place_of (Group at e) = at
place_of (Neg at e) = at
place_of (Not at e) = at
place_of (Two at op a b) = at
place_of (Field at a x) = at
place_of (Length at a) = at
place_of (Elem at a i) = at
place_of (Call at a x args) = at
place_of (Make at x args tweaks) = at
place_of (Array at kind e) = at

-- an expression's code and type
pub record Typed : Type 0 where
  pub code : TypedExpression
  pub type : ValueType

-- the type and the place of an argument
pub record Argument : Type 0 where
  pub type : ValueType
  pub at : Place

pub record Arguments : Type 0 where
  pub codes : TypedExpressions
  pub each : List Argument

-- a call's code, and the type of its result if it has one
pub record Called : Type 0 where
  pub code : TypedExpression
  pub result : Option ValueType

abbrev pub slot_value : Meaning → Option Typed
slot_value (SlotIs slot sh) = Some (record { code = typed.Local slot; type = Known sh })
slot_value (ParameterIs slot class) = Some (record { code = typed.Local slot; type = Known (shape.Class class) })
slot_value (TagIs variable tag_type) = None

-- the operands that an operator takes: numbers, truth values, or two of which one fits the other
abbrev pub takes : Op → ValueType → ValueType → Bool
takes op.Or a b = is_bool a && is_bool b
takes op.And a b = is_bool a && is_bool b
takes op.Same a b = fits a b || fits b a
takes op.Differ a b = fits a b || fits b a
takes op.Less a b = is_int a && is_int b
takes op.LessEq a b = is_int a && is_int b
takes op.More a b = is_int a && is_int b
takes op.MoreEq a b = is_int a && is_int b
takes op.Add a b = is_int a && is_int b
takes op.Sub a b = is_int a && is_int b
takes op.Mul a b = is_int a && is_int b
takes op.Div a b = is_int a && is_int b
takes op.Rem a b = is_int a && is_int b

-- the first argument that doesn't fit is a mismatch at its place
abbrev pub check_fits : List Argument → List ValueType → Got (Unit {0})
check_fits (x ∷ xs) (f ∷ fs) = do
  ask (fits x.type f) Mismatch x.at
  check_fits xs fs
check_fits _ _ = Gives tt

-- arguments are as many as the formals, and then each fits
abbrev pub check_arguments : Place → List Argument → List ValueType → Got (Unit {0})
check_arguments at xs formals = do
  ask (length xs == length formals) Arity at
  check_fits xs formals

-- a call, once its object and its arguments are known: the object's class, its method, the number of arguments, their fit
abbrev pub check_call : Names → Place → Typed → Named → Arguments → Got Called
check_call N at x m ys = do
  c ← class_before x.type at m
  r ← find (N.method_of c m.name) Unknown m.at
  check_arguments at ys.each r.signature.formals
  Gives (record { code = typed.Call at x.code c r.method ys.codes; result = r.signature.result })

-- An action in the braces of a `new`: a flag of the class, or a tag variable. The grammar has no `clear` there.
abbrev pub check_tweak : Names → Scope → ℕ → List Tweak → ActionText → Got (List Tweak)
check_tweak N s class tweaks (action.Flag x b) = do
  f ← find (N.flag_of class x.name) Unknown x.at
  Gives (tweaks ++ tweak.Flag f b ∷ [])
check_tweak N s class tweaks (action.Add at x) = do
  v ← tag_variable_at s x
  Gives (tweaks ++ tweak.Add at v ∷ [])
check_tweak N s class tweaks (action.Clear at x) = Fails Misplaced at

-- the kind of an array of such elements
abbrev pub array_at : Names → Base → Place → Got run_kind.Kind
array_at N base.Int at = Gives array_kind.Ints
array_at N base.Bool at = Gives array_kind.Bools
array_at N (base.Class name) at = do
  c ← find (N.class_of name) Unknown at
  Gives (array_kind.Objects c)

abbrev mutual
  pub infer : Context → Scope → Expression → Got Typed
  -- literals; `null` has a shape of its own
  infer G s (Int at n) = Gives (record { code = typed.Int n; type = Known shape.Int })
  infer G s (Truth at b) = Gives (record { code = typed.Truth b; type = Known shape.Bool })
  infer G s (Null at) = Gives (record { code = typed.Null; type = Known shape.Null })
  -- `this` is misplaced in a task
  infer G s (This at) = do
    c ← find G.me Misplaced at
    Gives (record { code = typed.Local 0; type = Known (shape.Class c) })
  -- a name: a slot in scope; a tag variable is a mismatch
  infer G s (Var x) = do
    m ← find (meaning_of s x) Unknown x.at
    find (slot_value m) Mismatch x.at
  infer G s (Group at e) = infer G s e
  -- operators: the operands, then what they ask for
  infer G s (Neg at e) = do
    x ← infer G s e
    ask (is_int x.type) Mismatch at
    Gives (record { code = typed.Neg x.code; type = Known shape.Int })
  infer G s (Not at e) = do
    x ← infer G s e
    ask (is_bool x.type) Mismatch at
    Gives (record { code = typed.Not x.code; type = Known shape.Bool })
  infer G s (Two at op a b) = do
    x ← infer G s a
    y ← infer G s b
    ask (takes op x.type y.type) Mismatch at
    Gives (record { code = typed.Two at op x.code y.code; type = Known (result_shape op) })
  -- a field: the object is a class, then its field
  infer G s (Field at a x) = do
    o ← infer G s a
    r ← field_at G.names o.type at x
    Gives (record { code = typed.FieldOf at o.code r.field; type = r.type })
  -- `.length` of an array
  infer G s (Length at a) = do
    x ← infer G s a
    ask (is_some (element_of x.type)) Mismatch at
    Gives (record { code = typed.Length at x.code; type = Known shape.Int })
  -- an element: an array, and a number
  infer G s (Elem at a i) = do
    x ← infer G s a
    y ← infer G s i
    t ← find (element_of x.type) Mismatch at
    ask (is_int y.type) Mismatch at
    Gives (record { code = typed.Elem at x.code y.code; type = t })
  -- a call as a value has a result
  infer G s (Call at a x args) = do
    o ← infer G s a
    ys ← infer_all G s args
    z ← check_call G.names at o x ys
    t ← find z.result Mismatch at
    Gives (record { code = z.code; type = t })
  -- `new`: the arguments, the class, their number and fit, then the braces
  infer G s (Make at x args tweaks) = do
    ys ← infer_all G s args
    c ← find (G.names.class_of x.name) Unknown x.at
    check_arguments at ys.each (G.names.maker_formals c)
    ts ← try_fold (check_tweak G.names s c) [] tweaks
    Gives (record { code = typed.Make at c ys.codes ts; type = Known (shape.Class c) })
  -- a new array: its size, the class of its elements, then that the size is a number
  infer G s (Array at t e) = do
    x ← infer G s e
    k ← array_at G.names t.base t.at
    ask (is_int x.type) Mismatch at
    Gives (record { code = typed.Array at k x.code; type = Known (shape_of_kind k) })

  -- arguments from left to right
  pub infer_all : Context → Scope → Expressions → Got Arguments
  infer_all G s NoArg = Gives (record { codes = typed.NoArg; each = [] })
  infer_all G s (Arg front last) = do
    xs ← infer_all G s front
    x ← infer G s last
    Gives (record { codes = typed.Arg xs.codes x.code; each = xs.each ++ record { type = x.type; at = place_of last } ∷ [] })

-- What holds of the body of a method or a task in a program: each number of a class, a member, a slot, a tag type, a tag
-- variable or a parameter is one that there is, every expression has the shape that its place asks for, and a slot or a
-- tag variable is read only where it has been set on each way there. Of whole numbers nothing is asked. Names, scopes and
-- faults don't occur here.
use Rattle.std.specs.Prelude.{◌≡◌, ◌⊎◌, ◌<◌, ℕ, Bool, true, false, if◌then◌else◌, ◌&&◌, ◌==◌, length, List, [], ◌∷◌, ◌++◌, Option, Some, None, slice_get, All, Contains}
use Rattle.bc_data.specs.declared.run.Kind.{Kind}
use Rattle.bc_data.specs.declared.run.Kind.TheVariants as kind
use Rattle.bc_data.specs.declared.program.Field.{Field}
use Rattle.bc_data.specs.declared.program.Shape.{Shape}
use Rattle.bc_data.specs.declared.program.Shape.TheVariants as shape
use Rattle.bc_data.specs.declared.program.Tweak.{Tweak}
use Rattle.bc_data.specs.declared.program.Tweak.TheVariants as tweak
use Rattle.bc_data.specs.declared.program.Change.{Change}
use Rattle.bc_data.specs.declared.program.Change.TheVariants as change
use Rattle.bc_data.specs.Shapes.{Takes, IsDeclared, element_shape, fits_shape, result_shape, shape_of_kind}
use Rattle.bc_data.specs.Typed.{TypedExpression, Int, Truth, Null, Local, Neg, Not, Two, FieldOf, Length, Elem, Call, Make, Array, TypedExpressions, NoArg, Arg, TypedPart, TextPart, NumberPart, TruthPart, TypedStatement, Set, NewTag, SetField, SetElem, Drop, Perform, If, While, Return, Print, Assert, Exit, Block, TypedStatements, Nothing, Then, TypedMethod, TypedClass}

-- a slot that has been set, and the shape of its values
pub record AssignedSlot : Type 0 where
  pub slot : ℕ
  pub shape : Shape

-- what has been set where an expression or a statement stands: slots, and tag variables by number
pub record Assigned : Type 0 where
  pub slots : List AssignedSlot
  pub tags : List ℕ

abbrev pub shape_of_slot : List AssignedSlot → ℕ → Option Shape
shape_of_slot [] slot = None
shape_of_slot (s ∷ ss) slot = if s.slot == slot then Some s.shape else shape_of_slot ss slot

abbrev pub assign_slot : Assigned → ℕ → Shape → Assigned
assign_slot a slot sh = record { slots = a.slots ++ record { slot = slot; shape = sh } ∷ []; tags = a.tags }

abbrev pub assign_tag : Assigned → ℕ → Assigned
assign_tag a v = record { slots = a.slots; tags = a.tags ++ v ∷ [] }

-- a field of a class, and a method
abbrev pub IsField : List TypedClass → ℕ → ℕ → Shape → Type 0
IsField K c f sh = (k : TypedClass) × (x : Field) × (slice_get K c ≡ Some k) × (slice_get k.fields f ≡ Some x) × (x.shape ≡ sh)

abbrev pub IsMethodOf : List TypedClass → ℕ → ℕ → TypedMethod → Type 0
IsMethodOf K c n m = (k : TypedClass) × (slice_get K c ≡ Some k) × (slice_get k.methods n ≡ Some m)

-- The shapes that the constructor of a class asks for. A class without one is made as by one without formals.
abbrev pub maker_shapes : Option TypedMethod → List Shape
maker_shapes None = []
maker_shapes (Some m) = m.formals

-- Values of these shapes may stand where those are asked for, one by one.
abbrev pub FitAll : List Shape → List Shape → Type 0
FitAll [] [] = Unit {0}
FitAll (x ∷ xs) (f ∷ fs) = (fits_shape x f ≡ true) × FitAll xs fs
FitAll [] (f ∷ fs) = ⊥
FitAll (x ∷ xs) [] = ⊥

-- an action in the braces of a `new` of this class
abbrev pub IsTweak : Assigned → TypedClass → Tweak → Type 0
IsTweak a k (tweak.Flag f b) = f < length k.flags
IsTweak a k (tweak.Add at v) = Contains a.tags v

-- what a `new` with a length makes
abbrev pub IsArrayKind : ℕ → Kind → Type 0
IsArrayKind classes (kind.Class c) = ⊥
IsArrayKind classes kind.Ints = Unit {0}
IsArrayKind classes kind.Bools = Unit {0}
IsArrayKind classes (kind.Objects c) = c < classes

abbrev mutual
  -- where this has been set, the expression has this shape
  pub HasType : List TypedClass → Assigned → TypedExpression → Shape → Type 0
  HasType K a (Int n) sh = sh ≡ shape.Int
  HasType K a (Truth b) sh = sh ≡ shape.Bool
  HasType K a Null sh = sh ≡ shape.Null
  HasType K a (Local slot) sh = shape_of_slot a.slots slot ≡ Some sh
  HasType K a (Neg e) sh = HasType K a e shape.Int × (sh ≡ shape.Int)
  HasType K a (Not e) sh = HasType K a e shape.Bool × (sh ≡ shape.Bool)
  HasType K a (Two at op x y) sh =
      (u v : Shape) × HasType K a x u × HasType K a y v × Takes op u v × (sh ≡ result_shape op)
  HasType K a (FieldOf at object f) sh = (c : ℕ) × HasType K a object (shape.Class c) × IsField K c f sh
  HasType K a (Length at array) sh = (u v : Shape) × HasType K a array u × (element_shape u ≡ Some v) × (sh ≡ shape.Int)
  HasType K a (Elem at array index) sh =
      (u : Shape) × HasType K a array u × HasType K a index shape.Int × (element_shape u ≡ Some sh)
  HasType K a (Call at object c n args) sh =
      (m : TypedMethod) × (us : List Shape) × HasType K a object (shape.Class c) × IsMethodOf K c n m × HaveTypes K a args us
      × FitAll us m.formals × (m.result ≡ Some sh)
  HasType K a (Make at c args tweaks) sh =
      (k : TypedClass) × (us : List Shape) × (slice_get K c ≡ Some k) × HaveTypes K a args us × FitAll us (maker_shapes k.maker)
      × All (IsTweak a k) tweaks × (sh ≡ shape.Class c)
  HasType K a (Array at kind size) sh = IsArrayKind (length K) kind × HasType K a size shape.Int × (sh ≡ shape_of_kind kind)

  pub HaveTypes : List TypedClass → Assigned → TypedExpressions → List Shape → Type 0
  HaveTypes K a NoArg us = us ≡ []
  HaveTypes K a (Arg front last) us = (vs : List Shape) × (u : Shape) × HaveTypes K a front vs × HasType K a last u × (us ≡ vs ++ u ∷ [])

-- a call of a method without a result
abbrev pub IsPerformed : List TypedClass → Assigned → TypedExpression → Type 0
IsPerformed K a (Call at object c n args) =
    (m : TypedMethod) × (us : List Shape) × HasType K a object (shape.Class c) × IsMethodOf K c n m × HaveTypes K a args us
    × FitAll us m.formals × (m.result ≡ None)
IsPerformed K a _ = ⊥

-- An item of a `print` is a text, a number or a truth value.
abbrev pub IsPart : List TypedClass → Assigned → TypedPart → Type 0
IsPart K a (TextPart bytes) = Unit {0}
IsPart K a (NumberPart e) = HasType K a e shape.Int
IsPart K a (TruthPart e) = HasType K a e shape.Bool

-- An action of a `taskexit` on a parameter of a task, whose parameters are of these classes: on a flag of its class, or with a
-- tag variable.
abbrev pub IsAction : List TypedClass → List ℕ → Assigned → Change → Type 0
IsAction K params a (change.Flag p f b) =
    (c : ℕ) × (k : TypedClass) × (slice_get params p ≡ Some c) × (slice_get K c ≡ Some k) × (f < length k.flags)
IsAction K params a (change.Add at p v) = (p < length params) × Contains a.tags v
IsAction K params a (change.Clear p v) = (p < length params) × Contains a.tags v

-- Where a body stands: in a method or a constructor, with the shape of its result if it has one, or in a task, with the classes
-- of its parameters.
pub data Around : Type 0 where
  InMethod : (result : Option Shape) → Around
  InTask : (params : List ℕ) → Around

-- what the statements of a body may use: classes, so many tag types, slots and tag variables
pub record Setting : Type 0 where
  pub classes : List TypedClass
  pub tag_types : ℕ
  pub around : Around
  pub locals : ℕ
  pub tags : ℕ

-- A slot takes values of this shape: it has it already, or it is set for the first time.
abbrev pub TakesValue : Setting → Assigned → ℕ → Shape → Assigned → Type 0
TakesValue B a slot sh b =
    ((shape_of_slot a.slots slot ≡ Some sh) × (b ≡ a))
    ⊎ ((shape_of_slot a.slots slot ≡ None) × (slot < B.locals) × IsDeclared (length B.classes) sh × (b ≡ assign_slot a slot sh))

abbrev mutual
  -- A statement where this has been set, and what has been set behind it. What a block sets is out of use behind it.
  pub IsTyped : Setting → Assigned → TypedStatement → Assigned → Type 0
  IsTyped B a (Set slot e) b = (u sh : Shape) × HasType B.classes a e u × (fits_shape u sh ≡ true) × TakesValue B a slot sh b
  IsTyped B a (NewTag at v tag_type) b =
      (params : List ℕ) × (B.around ≡ InTask params) × (tag_type < B.tag_types) × (v < B.tags) × (b ≡ assign_tag a v)
  IsTyped B a (SetField at object f e) b =
      (c : ℕ) × (u sh : Shape) × HasType B.classes a object (shape.Class c) × IsField B.classes c f sh × HasType B.classes a e u
      × (fits_shape u sh ≡ true) × (b ≡ a)
  IsTyped B a (SetElem at array index e) b =
      (r u sh : Shape) × HasType B.classes a array r × HasType B.classes a index shape.Int × (element_shape r ≡ Some sh)
      × HasType B.classes a e u × (fits_shape u sh ≡ true) × (b ≡ a)
  IsTyped B a (Drop e) b = (u : Shape) × HasType B.classes a e u × (b ≡ a)
  IsTyped B a (Perform e) b = IsPerformed B.classes a e × (b ≡ a)
  IsTyped B a (If test body other) b =
      (c d : Assigned) × HasType B.classes a test shape.Bool × AreTyped B a body c × AreTyped B a other d × (b ≡ a)
  IsTyped B a (While at test body) b = (c : Assigned) × HasType B.classes a test shape.Bool × AreTyped B a body c × (b ≡ a)
  IsTyped B a (Return None) b = (B.around ≡ InMethod None) × (b ≡ a)
  IsTyped B a (Return (Some e)) b =
      (u sh : Shape) × HasType B.classes a e u × (B.around ≡ InMethod (Some sh)) × (fits_shape u sh ≡ true) × (b ≡ a)
  IsTyped B a (Print at parts) b = All (IsPart B.classes a) parts × (b ≡ a)
  IsTyped B a (Assert at e) b = HasType B.classes a e shape.Bool × (b ≡ a)
  IsTyped B a (Exit changes) b = (params : List ℕ) × (B.around ≡ InTask params) × All (IsAction B.classes params a) changes × (b ≡ a)
  IsTyped B a (Block body) b = (c : Assigned) × AreTyped B a body c × (b ≡ a)

  pub AreTyped : Setting → Assigned → TypedStatements → Assigned → Type 0
  AreTyped B a Nothing b = b ≡ a
  AreTyped B a (Then front last) b = (c : Assigned) × AreTyped B a front c × IsTyped B c last b

-- Whether a body surely leaves: its last statement does.
abbrev mutual
  pub surely_leaves : TypedStatement → Bool
  surely_leaves (Set slot e) = false
  surely_leaves (NewTag at v tag_type) = false
  surely_leaves (SetField at object f e) = false
  surely_leaves (SetElem at array index e) = false
  surely_leaves (Drop e) = false
  surely_leaves (Perform e) = false
  surely_leaves (If test body other) = surely_leave body && surely_leave other
  surely_leaves (While at test body) = false
  surely_leaves (Return e) = true
  surely_leaves (Print at parts) = false
  surely_leaves (Assert at e) = false
  surely_leaves (Exit changes) = true
  surely_leaves (Block body) = surely_leave body

  pub surely_leave : TypedStatements → Bool
  surely_leave Nothing = false
  surely_leave (Then front last) = surely_leaves last

-- Shapes: when a value of one may stand where another is asked for, and what operators take and give.
use Rattle.std.specs.Prelude.{◌≡◌, ◌⊎◌, ◌<◌, ℕ, Bool, true, false, ◌&&◌, ◌||◌, ◌==◌, Option, Some, None}
use Rattle.bc_data.specs.declared.run.Kind.{Kind}
use Rattle.bc_data.specs.declared.run.Kind.TheVariants as kind
use Rattle.bc_data.specs.declared.program.Op.{Op}
use Rattle.bc_data.specs.declared.program.Op.TheVariants as op
use Rattle.bc_data.specs.declared.program.Shape.{Shape}
use Rattle.bc_data.specs.declared.program.Shape.TheVariants as shape

abbrev pub same_shape : Shape → Shape → Bool
same_shape shape.Int shape.Int = true
same_shape shape.Bool shape.Bool = true
same_shape shape.Null shape.Null = true
same_shape (shape.Class c) (shape.Class d) = c == d
same_shape shape.Ints shape.Ints = true
same_shape shape.Bools shape.Bools = true
same_shape (shape.Objects c) (shape.Objects d) = c == d
same_shape _ _ = false

abbrev pub is_reference : Shape → Bool
is_reference shape.Int = false
is_reference shape.Bool = false
is_reference shape.Null = false
is_reference (shape.Class c) = true
is_reference shape.Ints = true
is_reference shape.Bools = true
is_reference (shape.Objects c) = true

abbrev pub is_null : Shape → Bool
is_null a = same_shape a shape.Null

-- A value of the first shape may stand where the second is asked for: they are the same, or it is `null` and the second is a
-- class or an array.
abbrev pub fits_shape : Shape → Shape → Bool
fits_shape a b = same_shape a b || (is_null a && is_reference b)

-- the shape of an array's elements
abbrev pub element_shape : Shape → Option Shape
element_shape shape.Ints = Some shape.Int
element_shape shape.Bools = Some shape.Bool
element_shape (shape.Objects c) = Some (shape.Class c)
element_shape shape.Int = None
element_shape shape.Bool = None
element_shape shape.Null = None
element_shape (shape.Class c) = None

-- the shape of references to objects of a kind
abbrev pub shape_of_kind : Kind → Shape
shape_of_kind (kind.Class c) = shape.Class c
shape_of_kind kind.Ints = shape.Ints
shape_of_kind kind.Bools = shape.Bools
shape_of_kind (kind.Objects c) = shape.Objects c

abbrev pub result_shape : Op → Shape
result_shape op.Or = shape.Bool
result_shape op.And = shape.Bool
result_shape op.Same = shape.Bool
result_shape op.Differ = shape.Bool
result_shape op.Less = shape.Bool
result_shape op.LessEq = shape.Bool
result_shape op.More = shape.Bool
result_shape op.MoreEq = shape.Bool
result_shape op.Add = shape.Int
result_shape op.Sub = shape.Int
result_shape op.Mul = shape.Int
result_shape op.Div = shape.Int
result_shape op.Rem = shape.Int

-- the operands that an operator takes: truth values, two of which one fits the other, or numbers
abbrev pub Takes : Op → Shape → Shape → Type 0
Takes op.Or a b = (a ≡ shape.Bool) × (b ≡ shape.Bool)
Takes op.And a b = (a ≡ shape.Bool) × (b ≡ shape.Bool)
Takes op.Same a b = (fits_shape a b ≡ true) ⊎ (fits_shape b a ≡ true)
Takes op.Differ a b = (fits_shape a b ≡ true) ⊎ (fits_shape b a ≡ true)
Takes op.Less a b = (a ≡ shape.Int) × (b ≡ shape.Int)
Takes op.LessEq a b = (a ≡ shape.Int) × (b ≡ shape.Int)
Takes op.More a b = (a ≡ shape.Int) × (b ≡ shape.Int)
Takes op.MoreEq a b = (a ≡ shape.Int) × (b ≡ shape.Int)
Takes op.Add a b = (a ≡ shape.Int) × (b ≡ shape.Int)
Takes op.Sub a b = (a ≡ shape.Int) × (b ≡ shape.Int)
Takes op.Mul a b = (a ≡ shape.Int) × (b ≡ shape.Int)
Takes op.Div a b = (a ≡ shape.Int) × (b ≡ shape.Int)
Takes op.Rem a b = (a ≡ shape.Int) × (b ≡ shape.Int)

-- a shape that a text can declare, among so many classes
abbrev pub IsDeclared : ℕ → Shape → Type 0
IsDeclared classes shape.Int = Unit {0}
IsDeclared classes shape.Bool = Unit {0}
IsDeclared classes shape.Null = ⊥
IsDeclared classes (shape.Class c) = c < classes
IsDeclared classes shape.Ints = Unit {0}
IsDeclared classes shape.Bools = Unit {0}
IsDeclared classes (shape.Objects c) = c < classes

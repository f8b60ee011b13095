-- Values: numbers of 32 bits in two's complement, what operators give, and when two values are the same.
use Rattle.std.specs.Prelude.{ℤ, pos, ◌+ℤ◌, ◌-ℤ◌, ◌*ℤ◌, Bool, true, false, not, if◌then◌else◌, ◌==◌, int_lt, int_le, int_div, int_rem, Option, Some, None}
use Rattle.std.specs.Int.{w32, int_wrap}
use Rattle.std.specs.Ordering.{int_eq}
use Rattle.bc_data.specs.declared.program.Op.{Op}
use Rattle.bc_data.specs.declared.program.Op.TheVariants as op
use Rattle.bc_data.specs.declared.program.Shape.{Shape}
use Rattle.bc_data.specs.declared.program.Shape.TheVariants as shape
use Rattle.bc_data.specs.declared.run.Kind.{Kind}
use Rattle.bc_data.specs.declared.run.Kind.TheVariants as kind
use Rattle.bc_data.specs.declared.run.TagRef.{TagRef}
use Rattle.bc_data.specs.declared.run.TagRef.TheVariants as tag
use Rattle.bc_data.specs.declared.run.Value.{Value}
use Rattle.bc_data.specs.declared.run.Value.TheVariants as value

-- a number, of which 32 bits are kept
abbrev pub wrapped : ℤ → Value
wrapped n = value.Int (int_wrap w32 n)

-- What an operator on two numbers gives. A quotient is cut towards zero, and a remainder has the sign of the dividend.
abbrev pub arithmetic : Op → ℤ → ℤ → Option Value
arithmetic op.Add a b = Some (wrapped (a +ℤ b))
arithmetic op.Sub a b = Some (wrapped (a -ℤ b))
arithmetic op.Mul a b = Some (wrapped (a *ℤ b))
arithmetic op.Div a b = Some (wrapped (int_div a b))
arithmetic op.Rem a b = Some (wrapped (int_rem a b))
arithmetic op.Less a b = Some (value.Bool (int_lt a b))
arithmetic op.LessEq a b = Some (value.Bool (int_le a b))
arithmetic op.More a b = Some (value.Bool (int_lt b a))
arithmetic op.MoreEq a b = Some (value.Bool (int_le b a))
arithmetic op.Or a b = None
arithmetic op.And a b = None
arithmetic op.Same a b = None
arithmetic op.Differ a b = None

-- a division by zero
abbrev pub divides_by_zero : Op → ℤ → Bool
divides_by_zero op.Div b = int_eq b (pos 0)
divides_by_zero op.Rem b = int_eq b (pos 0)
divides_by_zero _ b = false

-- References are the same where they are to one object.
abbrev pub same_value : Value → Value → Bool
same_value (value.Int m) (value.Int n) = int_eq m n
same_value (value.Bool a) (value.Bool b) = if a then b else not b
same_value value.Null value.Null = true
same_value (value.Old m) (value.Old n) = m == n
same_value (value.New m) (value.New n) = m == n
same_value _ _ = false

abbrev pub same_tag : TagRef → TagRef → Bool
same_tag (tag.Old m) (tag.Old n) = m == n
same_tag (tag.New m) (tag.New n) = m == n
same_tag _ _ = false

-- the value of a cell at first
abbrev pub zero_of : Shape → Value
zero_of shape.Int = value.Int (pos 0)
zero_of shape.Bool = value.Bool false
zero_of shape.Null = value.Null
zero_of (shape.Class c) = value.Null
zero_of shape.Ints = value.Null
zero_of shape.Bools = value.Null
zero_of (shape.Objects c) = value.Null

-- the value of an element at first
abbrev pub zero_in : Kind → Value
zero_in (kind.Class c) = value.Null
zero_in kind.Ints = value.Int (pos 0)
zero_in kind.Bools = value.Bool false
zero_in (kind.Objects c) = value.Null

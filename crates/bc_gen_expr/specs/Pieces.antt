-- What an operator does.
use Rattle.std.specs.Prelude.{◌≡◌, ℕ, ◌+◌, Bool, true, false}
use Rattle.bc_data.specs.declared.program.Op.{Op}
use Rattle.bc_data.specs.declared.program.Op.TheVariants as op
use Rattle.bc_data.specs.declared.run.Place.{Place}
use Rattle.bc_code.specs.declared.code.Instruction.{Instruction}
use Rattle.bc_code.specs.declared.code.Instruction.TheVariants as instruction
use Rattle.bc_code.specs.Translation.{Text, At, right_from, behind_operator, IsOperator}
use Rattle.bc_gen_expr.specs.declared.pieces.Operator.{Operator}
use Rattle.bc_gen_expr.specs.declared.pieces.Operator.TheVariants as operator

-- the jump that is taken where the value on top is this one
abbrev pub jump_where : Bool → ℕ → Instruction
jump_where true goal = instruction.JumpIf goal
jump_where false goal = instruction.JumpIfNot goal

-- the operator whose value the left operand decides by this one
abbrev pub decided_by : Bool → Op
decided_by true = op.Or
decided_by false = op.And

-- Nothing stands before the right operand of the operator, and this instruction behind it.
pub record Calculates (o : Op) (i : Instruction) : Type 0 where
  pub right : (p : ℕ) → right_from o p ≡ p
  pub behind : (q : ℕ) → behind_operator o q ≡ q + 1
  pub is : (T : Text) (at : Place) (p q : ℕ) → At T q i at → IsOperator T at o p q

abbrev pub DoesOperator : Op → Operator → Type 0
DoesOperator o (operator.Calculates i) = Calculates o i
DoesOperator o (operator.Decides b) = o ≡ decided_by b

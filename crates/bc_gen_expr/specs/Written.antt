-- A unit with another instruction in the place of one.
use Rattle.std.specs.Prelude.{ℕ, slice_set}
use Rattle.bc_code.specs.declared.code.Instruction.{Instruction}
use Rattle.bc_code.specs.declared.code.Unit.{Unit as CodeUnit}

abbrev pub written : CodeUnit → ℕ → Instruction → CodeUnit
written u n i = record u { code = slice_set u.code n i }

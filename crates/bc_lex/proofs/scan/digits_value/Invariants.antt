use Rattle.std.proofs.Common.{◌≡◌, min, take}
use Rattle.bc_data.specs.Spelling.{digits_value}
use Rattle.bc_lex.proofs.scan.digits_value.Given as goal

abbrev pub invariant-loop-digit : goal.invariant-loop-digit
invariant-loop-digit l = l.value ≡ min (digits_value (take l.digit-index l.digits)) 2147483648

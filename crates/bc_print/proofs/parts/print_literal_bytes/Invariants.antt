use Rattle.std.proofs.Common.{◌≡◌, ◌++◌, take}
use Rattle.bc_print.specs.Canonical.{literal_bytes}
use Rattle.bc_print.proofs.parts.print_literal_bytes.Given as goal

abbrev pub invariant-loop-b : goal.invariant-loop-b
invariant-loop-b l = l.out ≡ l.fn.out ++ literal_bytes (take l.b-index l.meaning)

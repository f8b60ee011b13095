use Rattle.std.proofs.Common.{◌≡◌, ◌++◌, take}
use Rattle.bc_data.specs.SourceTree.{Empty}
use Rattle.bc_data.specs.View.{onto}
use Rattle.bc_print.specs.Canonical.{joined}
use Rattle.bc_print.proofs.parts.print_joined.Given as goal

abbrev pub invariant-loop-i : goal.invariant-loop-i
invariant-loop-i g l = l.out ≡ l.fn.out ++ joined g.T.Part.text l.separator (onto (take l.i l.parts) Empty)

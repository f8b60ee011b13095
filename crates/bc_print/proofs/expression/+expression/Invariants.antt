use Rattle.std.proofs.Common.{◌≡◌, ◌++◌, take}
use Rattle.bc_data.specs.SourceTree.{NoArg}
use Rattle.bc_data.specs.View.{views}
use Rattle.bc_print.specs.Canonical.{arguments_text}
use Rattle.bc_print.proofs.expression.+expression.Given as goal

abbrev pub invariant-print_arguments-loop-i : goal.invariant-print_arguments-loop-i
invariant-print_arguments-loop-i l = l.out ≡ l.fn.out ++ arguments_text (views (take l.i l.args) NoArg)

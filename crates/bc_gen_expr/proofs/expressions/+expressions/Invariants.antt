use Rattle.std.proofs.Common.{take}
use Rattle.bc_data.specs.Typed.{NoArg}
use Rattle.bc_data.specs.ProgramView.{expr_views}
use Rattle.bc_gen_expr.proofs.Stays.{EmitsAll}
use Rattle.bc_gen_expr.proofs.expressions.+expressions.Given as goal

abbrev pub invariant-arguments-loop-e : goal.invariant-arguments-loop-e
invariant-arguments-loop-e l = EmitsAll l.classes (expr_views (take l.e-index l.es) NoArg) l.fn.out l.out

use Rattle.std.proofs.Common.{◌≡◌, ◌-◌, drop, length}
use Rattle.bc_types_rules.specs.Expressions.{check_fits}
use Rattle.bc_types_expr.specs.Types.{types_seen}
use Rattle.bc_types_expr.specs.Expressions.{each_seen}
use Rattle.bc_types_expr.proofs.calls.check_each.Given as goal

abbrev pub invariant-loop-i : goal.invariant-loop-i
invariant-loop-i l = check_fits (each_seen l.each) (types_seen l.formals) ≡ check_fits (each_seen (drop l.i l.each)) (types_seen (drop l.i l.formals))

abbrev pub decreases-loop-i : goal.decreases-loop-i
decreases-loop-i l = length l.each - l.i

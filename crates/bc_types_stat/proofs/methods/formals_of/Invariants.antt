use Rattle.std.proofs.Common.{◌≡◌, take}
use Rattle.bc_data.specs.SourceTree.{Empty}
use Rattle.bc_data.specs.View.{onto}
use Rattle.bc_types_rules.specs.Got.{Gives}
use Rattle.bc_types_expr.specs.Looks.{looks}
use Rattle.bc_types_stat.specs.Bodies.{check_formals, formals_seen}
use Rattle.bc_types_stat.proofs.methods.formals_of.Given as goal

abbrev pub invariant-loop-x : goal.invariant-loop-x
invariant-loop-x l = check_formals (looks l.table) (onto (take l.x-index l.xs) Empty) ≡ Gives (formals_seen l.formals)

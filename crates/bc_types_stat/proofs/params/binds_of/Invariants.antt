use Rattle.std.proofs.Common.{◌≡◌, take}
use Rattle.bc_data.specs.SourceTree.{Empty}
use Rattle.bc_data.specs.View.{onto}
use Rattle.bc_types_rules.specs.Got.{Gives}
use Rattle.bc_types_rules.specs.Bodies.{check_bind}
use Rattle.bc_types_rules.specs.Numbering.{try_fold}
use Rattle.bc_types_expr.specs.Looks.{looks}
use Rattle.bc_types_stat.specs.Bodies.{binds_seen, unbound}
use Rattle.bc_types_stat.proofs.params.binds_of.Given as goal

abbrev pub invariant-loop-b : goal.invariant-loop-b
invariant-loop-b l = try_fold (check_bind (looks l.table)) (unbound l.fn.scope) (onto (take l.b-index l.bs) Empty) ≡ Gives (binds_seen l.binds)

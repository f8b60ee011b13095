use Rattle.std.proofs.Common.{◌≡◌, take}
use Rattle.bc_data.specs.SourceTree.{Empty}
use Rattle.bc_data.specs.View.{onto_by, view_param}
use Rattle.bc_types_rules.specs.Got.{Gives}
use Rattle.bc_types_expr.specs.Looks.{looks}
use Rattle.bc_types_stat.specs.Bodies.{check_params, params_seen}
use Rattle.bc_types_stat.proofs.params.params_of.Given as goal

abbrev pub invariant-loop-p : goal.invariant-loop-p
invariant-loop-p l = check_params (looks l.table) (onto_by view_param (take l.p-index l.ps) Empty) ≡ Gives (params_seen l.params)

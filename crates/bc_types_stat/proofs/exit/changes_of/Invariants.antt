use Rattle.std.proofs.Common.{◌≡◌, take}
use Rattle.bc_data.specs.SourceTree.{Empty}
use Rattle.bc_data.specs.View.{onto_by, view_change}
use Rattle.bc_types_rules.specs.Got.{Gives}
use Rattle.bc_types_rules.specs.Numbering.{try_fold}
use Rattle.bc_types_rules.specs.Statements.{check_change, none_named}
use Rattle.bc_types_expr.specs.Looks.{looks}
use Rattle.bc_types_stat.specs.Bodies.{exiting_seen}
use Rattle.bc_types_stat.proofs.exit.changes_of.Given as goal

abbrev pub invariant-loop-change : goal.invariant-loop-change
invariant-loop-change l = try_fold (check_change (looks l.table) l.scope) none_named (onto_by view_change (take l.change-index l.changes) Empty) ≡ Gives (exiting_seen l.exiting)

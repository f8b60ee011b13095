use Rattle.std.proofs.Common.{◌≡◌, take}
use Rattle.bc_data.specs.SourceTree.{Empty}
use Rattle.bc_data.specs.View.{onto}
use Rattle.bc_types_rules.specs.Got.{Gives}
use Rattle.bc_types_rules.specs.Numbering.{try_fold}
use Rattle.bc_types_rules.specs.Statements.{check_action}
use Rattle.bc_types_expr.specs.Looks.{looks}
use Rattle.bc_types_stat.specs.Bodies.{parameter_seen}
use Rattle.bc_types_stat.proofs.exit.add_actions.Given as goal

abbrev pub invariant-loop-action : goal.invariant-loop-action
invariant-loop-action l = try_fold (check_action (looks l.table) l.scope (parameter_seen l.p)) l.fn.changes.items (onto (take l.action-index l.actions) Empty) ≡ Gives l.changes.items

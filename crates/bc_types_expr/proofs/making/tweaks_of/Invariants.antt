use Rattle.std.proofs.Common.{◌≡◌, [], take}
use Rattle.bc_data.specs.SourceTree.{Empty}
use Rattle.bc_data.specs.View.{onto_by}
use Rattle.bc_types_rules.specs.Got.{Gives}
use Rattle.bc_types_rules.specs.Numbering.{try_fold}
use Rattle.bc_types_rules.specs.Expressions.{check_tweak}
use Rattle.bc_types_expr.specs.Looks.{looks}
use Rattle.bc_types_expr.proofs.making.tweaks_of.Given as goal

abbrev pub invariant-loop-action : goal.invariant-loop-action
invariant-loop-action l = try_fold (check_tweak (looks l.table) l.scope l.class) [] (onto_by (λ x. x) (take l.action-index l.actions) Empty) ≡ Gives l.tweaks.items

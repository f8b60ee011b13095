use Rattle.std.proofs.Common.{◌≡◌, take}
use Rattle.bc_data.specs.SourceTree.{NoArg}
use Rattle.bc_data.specs.View.{views}
use Rattle.bc_types_rules.specs.Got.{Gives}
use Rattle.bc_types_rules.specs.Expressions.{infer_all}
use Rattle.bc_types_expr.specs.Contexts.{context_of}
use Rattle.bc_types_expr.proofs.LeftToRight.{read}
use Rattle.bc_types_expr.proofs.expressions.+expressions.Given as goal

abbrev pub invariant-arguments-loop-e : goal.invariant-arguments-loop-e
invariant-arguments-loop-e l = infer_all (context_of l.inside) l.scope (views (take l.e-index l.es) NoArg) ≡ Gives (read l.codes.items l.each.items)

use Rattle.std.proofs.Common.{◌≡◌, take}
use Rattle.bc_types_rules.specs.Got.{Gives}
use Rattle.bc_data.specs.Typed.{Nothing}
use Rattle.bc_data.specs.ProgramView.{program_stat_views}
use Rattle.bc_types_expr.specs.Contexts.{context_of}
use Rattle.bc_types_stat.specs.Bodies.{all_stated}
use Rattle.bc_types_stat.proofs.Blocks.{all_of}
use Rattle.bc_types_stat.proofs.statements.+statements.Given as goal

abbrev pub invariant-block-loop-s : goal.invariant-block-loop-s
invariant-block-loop-s l = all_of (context_of l.inside) l.fn.scope (take l.s-index l.body) ≡ Gives (all_stated (program_stat_views l.codes.items Nothing) l.scope)

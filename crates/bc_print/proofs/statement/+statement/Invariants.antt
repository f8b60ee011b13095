use Rattle.std.proofs.Common.{◌≡◌, ◌++◌, take}
use Rattle.bc_data.specs.SourceTree.{Nothing}
use Rattle.bc_data.specs.View.{stat_views}
use Rattle.bc_print.specs.Canonical.{statements_text, deeper}
use Rattle.bc_print.proofs.statement.+statement.Given as goal

abbrev pub invariant-print_body-loop-statement : goal.invariant-print_body-loop-statement
invariant-print_body-loop-statement l = l.out ≡ l.fn.out ++ statements_text (deeper l.margin) (stat_views (take l.statement-index l.body) Nothing)

use Rattle.std.specs.Prelude.{codes}
use Rattle.bc_data.specs.View.{view}
use Rattle.bc_print.specs.Canonical.{expression_text, formal_text}
use Rattle.bc_print.proofs.Lists.{line_of_four, ok_then_two}
use Rattle.bc_print.proofs.statement.print_let.Goals as goal

pub returns : goal.returns
returns c =
    ok_then_two _ _ _ _ _ _ _ _ _ c.in_ok-extend_from_slice.ensures.ok c.in_ok-print.ensures c.print_between.ensures (line_of_four c.args.margin.now (formal_text c.args.x.now) (codes " = ") (expression_text (view c.args.e.now)) (codes ";"))

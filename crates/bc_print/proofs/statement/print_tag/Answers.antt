use Rattle.std.specs.Prelude.{codes}
use Rattle.bc_print.proofs.Lists.{line_of_five, ok_then_two}
use Rattle.bc_print.proofs.statement.print_tag.Goals as goal

pub returns : goal.returns
returns c =
    ok_then_two _ _ _ _ _ _ _ _ _ c.in_ok-extend_from_slice.ensures.ok c.in_ok-print_named.ensures c.print_named-2.ensures (line_of_five c.args.margin.now (codes "tag ") c.args.x.now.name (codes " = new tag(") c.args.kind.now.name (codes ");"))

use Rattle.bc_data.specs.View.{view_text_item}
use Rattle.bc_print.specs.Canonical.{item_text}
use Rattle.bc_print.proofs.Lists.{each_next, then_one}
use Rattle.bc_print.proofs.program.print_items.Goals as goal

pub loop-item-preserved : goal.loop-item-preserved
loop-item-preserved c =
    then_one _ _ _ _ _ _ c.loop-item.invariant c.in_ok-print_item.ensures (each_next item_text view_text_item c.args.items.now c.loop-item.item-index c.item-item.result c.loop-item-test.true c.item-item.is)

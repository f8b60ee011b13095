use Rattle.std.proofs.Common.{◌<◌, ◌∙◌, ◌∷◌, [], length, arith}
use Rattle.bc_data.specs.View.{view_text_item}
use Rattle.bc_types_rules.specs.Declared.{startup_types, with_item}
use Rattle.bc_types_rules.specs.Numbering.{number_of}
use Rattle.bc_types_expr.specs.Looks.{all_types_seen}
use Rattle.bc_types.proofs.Folds.{fold_next}
use Rattle.bc_types.proofs.types.types_of.Goals as goal

pub loop-item-preserved : goal.loop-item-preserved
loop-item-preserved c =
    let within : c.loop-item.item-index < length c.args.items.now = omega arith in
    c.in_ok-add_item.ensures
    ∙ fold_next (with_item (number_of c.args.names.now.classes)) view_text_item (startup_types ∷ []) (all_types_seen c.loop-item.types.items) c.args.items.now c.loop-item.item-index c.item-item.result within c.item-item.is c.loop-item.invariant

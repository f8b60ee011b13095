use Rattle.std.proofs.Common.{◌<◌, length, arith}
use Rattle.std.proofs.lemmas.Result.{err_from_is_err_and}
use Rattle.bc_data.specs.View.{view_text_item}
use Rattle.bc_types_rules.specs.Walk.{check_item, startup_program}
use Rattle.bc_types_expr.specs.Looks.{looks}
use Rattle.bc_names.proofs.Walk.{walk_on, walk_stops}
use Rattle.bc_types.specs.Parts.{parts_seen}
use Rattle.bc_types.proofs.Numbers.{few_classes}
use Rattle.bc_types.proofs.walk.walk.Goals as goal

pub add-requires : goal.add-requires
add-requires c =
    let p = parts_seen c.loop-item.parts in
    few_classes (looks c.args.table.now) view_text_item c.args.table.now.names p c.args.items.now
    c.loop-item.item-index c.requires.numbered c.loop-item.invariant

pub returns-in_err-add : goal.returns-in_err-add
returns-in_err-add c =
    let within : c.loop-item.item-index < length c.args.items.now = omega arith in
    let p = err_from_is_err_and c.from_residual-in_err-add.result c.from_residual-in_err-add.ensures.1 in
    rw (p.1, p.2) (walk_stops (check_item (looks c.args.table.now)) view_text_item c.in_err-add.field-0.0 startup_program (parts_seen c.loop-item.parts) c.args.items.now c.loop-item.item-index c.item-item.result within c.item-item.is c.loop-item.invariant c.in_err-add.ensures)

pub loop-item-preserved : goal.loop-item-preserved
loop-item-preserved c =
    let within : c.loop-item.item-index < length c.args.items.now = omega arith in
    walk_on (check_item (looks c.args.table.now)) view_text_item startup_program (parts_seen c.loop-item.parts) _ c.args.items.now c.loop-item.item-index c.item-item.result within c.item-item.is c.loop-item.invariant c.in_ok-add.ensures

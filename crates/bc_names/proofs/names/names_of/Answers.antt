use Rattle.std.proofs.Common.{◌<◌, length, arith}
use Rattle.std.proofs.lemmas.Result.{err_from_is_err_and}
use Rattle.bc_data.specs.View.{view_text_item}
use Rattle.bc_types_rules.specs.Numbering.{declare_item, startup_spaces}
use Rattle.bc_names.proofs.Walk.{walk_on, walk_stops}
use Rattle.bc_names.proofs.names.names_of.Goals as goal

pub returns-in_err-declare : goal.returns-in_err-declare
returns-in_err-declare c =
    let within : c.loop-item.item-index < length c.args.items.now = omega arith in
    let p = err_from_is_err_and c.from_residual-in_err-declare.result c.from_residual-in_err-declare.ensures.1 in
    rw (p.1, p.2) (walk_stops declare_item view_text_item c.in_err-declare.field-0.0 startup_spaces c.loop-item.names c.args.items.now c.loop-item.item-index c.item-item.result within c.item-item.is c.loop-item.invariant c.in_err-declare.ensures)

pub loop-item-preserved : goal.loop-item-preserved
loop-item-preserved c =
    let within : c.loop-item.item-index < length c.args.items.now = omega arith in
    walk_on declare_item view_text_item startup_spaces c.loop-item.names _ c.args.items.now c.loop-item.item-index c.item-item.result within c.item-item.is c.loop-item.invariant c.in_ok-declare.ensures

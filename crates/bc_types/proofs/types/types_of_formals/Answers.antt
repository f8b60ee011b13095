use Rattle.std.proofs.Common.{◌<◌, ◌∙◌, ap, length, map, arith}
use Rattle.bc_data.specs.declared.tree.Formal.{Formal}
use Rattle.bc_types_rules.specs.Context.{type_of}
use Rattle.bc_types_rules.specs.Numbering.{number_of}
use Rattle.bc_types_expr.specs.Types.{type_seen}
use Rattle.bc_types.proofs.Folds.{each_next}
use Rattle.bc_types.proofs.types.types_of_formals.Goals as goal

pub loop-formal-preserved : goal.loop-formal-preserved
loop-formal-preserved c =
    let within : c.loop-formal.formal-index < length c.args.formals.now = omega arith in
    ap (map type_seen) c.in_ok-push.ensures.items
    ∙ each_next type_seen (λ (x : Formal). type_of (number_of c.args.names.now.classes) x.kind) c.loop-formal.types.items c.in_ok-kind.kind c.args.formals.now c.loop-formal.formal-index c.formal-item.result within c.formal-item.is c.loop-formal.invariant c.in_ok-kind.ensures

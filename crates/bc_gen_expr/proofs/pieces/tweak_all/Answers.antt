use Rattle.std.proofs.Common.{◌<◌, length, arith}
use Rattle.bc_gen_expr.proofs.Arms.{one_more_tweak}
use Rattle.bc_gen_expr.proofs.pieces.tweak_all.Goals as goal

pub loop-action-preserved : goal.loop-action-preserved
loop-action-preserved c =
    let within : c.loop-action.action-index < length c.args.tweaks.now = omega arith in
    one_more_tweak c.args.tweaks.now c.loop-action.action-index _ within c.loop-action.invariant c.in_ok-tweak.ensures

use Rattle.std.proofs.Common.{take}
use Rattle.bc_code.specs.Emitted.{Emitted}
use Rattle.bc_code.specs.Translation.{AreTweaks, behind_each}
use Rattle.bc_gen_expr.proofs.pieces.tweak_all.Given as goal

abbrev pub invariant-loop-action : goal.invariant-loop-action
invariant-loop-action l = Emitted (λ T p. AreTweaks T p (take l.action-index l.tweaks)) (λ p. behind_each (take l.action-index l.tweaks) p) l.fn.out l.out

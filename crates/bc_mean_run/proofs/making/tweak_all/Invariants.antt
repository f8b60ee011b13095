use Rattle.std.proofs.Common.{◌≡◌, drop}
use Rattle.bc_mean.specs.Evaluate.{tweak_all}
use Rattle.bc_mean_run.proofs.making.tweak_all.Given as goal

abbrev pub invariant-loop-tweak : goal.invariant-loop-tweak
invariant-loop-tweak l = tweak_all l.frame l.n l.tweaks l.initial.run ≡ tweak_all l.frame l.n (drop l.tweak-index l.tweaks) l.run

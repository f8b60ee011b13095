use Rattle.std.proofs.Common.{◌≡◌, drop}
use Rattle.bc_mean.specs.Execute.{act_all}
use Rattle.bc_mean_run.specs.Tree.{world_of}
use Rattle.bc_mean_run.proofs.acting.act_all.Given as goal

abbrev pub invariant-loop-change : goal.invariant-loop-change
invariant-loop-change l = act_all (world_of l.stage) l.frame l.changes l.initial.run ≡ act_all (world_of l.stage) l.frame (drop l.change-index l.changes) l.run

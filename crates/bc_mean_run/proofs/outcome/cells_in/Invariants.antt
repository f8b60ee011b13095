use Rattle.std.proofs.Common.{◌≡◌, take}
use Rattle.bc_mean.specs.Store.{cells_in}
use Rattle.bc_mean_run.proofs.outcome.cells_in.Given as goal

abbrev pub invariant-loop-body : goal.invariant-loop-body
invariant-loop-body l = l.count ≡ cells_in (take l.body-index l.bodies)

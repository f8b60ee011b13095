use Rattle.std.proofs.Common.{◌≡◌, drop}
use Rattle.bc_mean.specs.Work.{newest}
use Rattle.bc_mean_run.proofs.run.newest.Given as goal

abbrev pub invariant-loop-written : goal.invariant-loop-written
invariant-loop-written l = newest l.changed l.id l.body ≡ newest (drop l.written-index l.changed) l.id l.body

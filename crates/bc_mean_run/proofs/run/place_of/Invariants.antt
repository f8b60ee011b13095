use Rattle.std.proofs.Common.{◌≡◌, ◌++◌, take, drop}
use Rattle.bc_data.specs.declared.run.Body.{Body}
use Rattle.bc_mean.specs.Work.{put}
use Rattle.bc_mean_run.proofs.run.place_of.Given as goal

abbrev pub invariant-loop-written : goal.invariant-loop-written
invariant-loop-written l =
    (l.i ≡ l.written-index) × ((b : Body) → put l.id b l.changed ≡ take l.i l.changed ++ put l.id b (drop l.i l.changed))

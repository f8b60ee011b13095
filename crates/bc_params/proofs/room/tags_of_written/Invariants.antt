use Rattle.std.proofs.Common.{◌≡◌, length, take}
use Rattle.std.specs.List.{sum_by}
use Rattle.bc_params.proofs.room.tags_of_written.Given as goal

abbrev pub invariant-loop-written : goal.invariant-loop-written
invariant-loop-written l = l.sum ≡ sum_by (λ w. length w.body.tags) (take l.written-index l.bodies)

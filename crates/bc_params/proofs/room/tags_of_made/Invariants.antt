use Rattle.std.proofs.Common.{◌≡◌, length, take}
use Rattle.std.specs.List.{sum_by}
use Rattle.bc_params.proofs.room.tags_of_made.Given as goal

abbrev pub invariant-loop-body : goal.invariant-loop-body
invariant-loop-body l = l.sum ≡ sum_by (λ b. length b.tags) (take l.body-index l.bodies)

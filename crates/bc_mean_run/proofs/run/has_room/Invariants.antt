use Rattle.std.proofs.Common.{◌≡◌, ◌+◌, nat_le, drop}
use Rattle.bc_mean.specs.Store.{cells_in}
use Rattle.bc_mean_run.proofs.run.has_room.Given as goal

abbrev pub invariant-loop-body : goal.invariant-loop-body
invariant-loop-body l = nat_le (cells_in l.bodies + l.more) l.limit ≡ nat_le (cells_in (drop l.body-index l.bodies)) l.room

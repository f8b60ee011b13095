use Rattle.std.proofs.Common.{◌≡◌, ◌-◌, ◌^◌, take, min}
use Rattle.bc_mean.specs.Store.{cells_in}
use Rattle.bc_store.proofs.vectors.cells_of.Given as goal

-- those so far
abbrev pub invariant-loop-body : goal.invariant-loop-body
invariant-loop-body l = l.sum ≡ min (cells_in (take l.body-index l.bodies)) (2 ^ 64 - 1)

use Rattle.std.proofs.Common.{◌≡◌, map, take}
use Rattle.bc_mean.specs.Changes.{value_in}
use Rattle.bc_mean.proofs.commit.cells_in.Given as goal

-- those so far
abbrev pub invariant-loop-value : goal.invariant-loop-value
invariant-loop-value l = l.values ≡ map (value_in l.store) (take l.value-index l.cells)

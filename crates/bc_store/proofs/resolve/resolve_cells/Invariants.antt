use Rattle.std.proofs.Common.{◌≡◌}
use Rattle.bc_mean.specs.Changes.{value_in}
use Rattle.bc_store.proofs.Mapped.{mapped_to}
use Rattle.bc_store.proofs.resolve.resolve_cells.Given as goal

-- those so far
abbrev pub invariant-loop-at : goal.invariant-loop-at
invariant-loop-at l = l.cells ≡ mapped_to (value_in l.store.plain) l.at l.initial.cells

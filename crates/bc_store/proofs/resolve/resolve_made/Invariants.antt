use Rattle.std.proofs.Common.{◌≡◌}
use Rattle.bc_mean.specs.Changes.{body_in}
use Rattle.bc_store.proofs.Mapped.{mapped_to}
use Rattle.bc_store.proofs.resolve.resolve_made.Given as goal

-- those so far
abbrev pub invariant-loop-at : goal.invariant-loop-at
invariant-loop-at l = l.made ≡ mapped_to (body_in l.store.plain) l.at l.initial.made

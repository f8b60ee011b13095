use Rattle.std.proofs.Common.{◌≡◌}
use Rattle.bc_mean.specs.Commit.{written_in}
use Rattle.bc_store.proofs.Mapped.{mapped_to}
use Rattle.bc_store.proofs.resolve.resolve_changed.Given as goal

-- those so far
abbrev pub invariant-loop-at : goal.invariant-loop-at
invariant-loop-at l = l.changed ≡ mapped_to (written_in l.store.plain) l.at l.initial.changed

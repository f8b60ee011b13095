-- A count that rose in a part of what was done rose in all of it.
use Rattle.std.proofs.Common.{ℕ, ◌≤◌, inl, inr, arith}
use Rattle.bc_base.specs.Outside.{Rose}

-- it rose, and then didn't fall
pub Rose-before : (old mid new : ℕ) → Rose old mid → mid ≤ new → Rose old new
Rose-before old mid new (inl up) later = inl (omega arith)
Rose-before old mid new (inr top) later = inr (omega arith)

-- it didn't fall, and then rose
pub Rose-behind : (old mid new : ℕ) → old ≤ mid → Rose mid new → Rose old new
Rose-behind old mid new later (inl up) = inl (omega arith)
Rose-behind old mid new later (inr top) = inr top

-- The law of counts, as a fact that contracts name.
use Rattle.std.specs.Prelude.{◌≡◌, ◌==◌, ℕ, List, true, slice_index_or, count_by}
use Rattle.bc_tally.specs.Counts.{Counts}

-- Lists don't name an object whose count is there and 0.
abbrev pub NoneIsNamed : Type 0
NoneIsNamed = (counts named : List ℕ) (id : ℕ) → Counts counts named → (slice_index_or counts id 1 == 0) ≡ true → count_by (λ other. other == id) named ≡ 0

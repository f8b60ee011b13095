-- Counts of the objects that lists name.
use Rattle.std.specs.Prelude.{◌≡◌, ◌<◌, ◌==◌, ℕ, List, Some, slice_get, count_by}

-- Each count below the end of its type is what the function gives at its place.
abbrev pub Tells : List ℕ → (ℕ → ℕ) → Type 0
Tells counts f = (id n : ℕ) → slice_get counts id ≡ Some n → n < 4294967295 → n ≡ f id

-- Each count below the end of its type tells how often its object is named.
abbrev pub Counts : List ℕ → List ℕ → Type 0
Counts counts named = Tells counts (λ id. count_by (λ other. other == id) named)

-- The failures as contracts see them.
use Rattle.std.specs.Prelude.{ℕ, Bool, not, ◌==◌, List}
use Rattle.std.specs.List.{list_any}
use Rattle.bc_mean.specs.Serial.{Failed}

-- the failures in the order in which they came, and for how many touched objects more there is room
pub record Records : Type 0 where
  pub failures : List Failed
  pub spare : ℕ

abbrev pub touches : ℕ → Failed → Bool
touches id f = list_any (λ other. other == id) f.touched

abbrev pub leaves : ℕ → Failed → Bool
leaves id f = not (touches id f)

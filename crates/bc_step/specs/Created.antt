-- The objects that an invocation made.
use Rattle.std.specs.Prelude.{◌≡◌, ℕ, ◌+◌, ◌&&◌, nat_lt, nat_le, Bool, true, false, List, [], ◌∷◌, ◌++◌, length, Option, Some, None}
use Rattle.bc_data.specs.declared.run.Body.{Body}
use Rattle.bc_mean.specs.Store.{cells_in}

abbrev pub has_room : List Body → Body → Bool
has_room made b = nat_lt (length made) 65536 && nat_le (cells_in made + length b.cells) 4194304

-- The object was made and has this number, or there was no room for it.
abbrev pub Makes : Option ℕ → Body → List Body → List Body → Type 0
Makes None b old new = (has_room old b ≡ false) × (new ≡ old)
Makes (Some n) b old new = (has_room old b ≡ true) × (n ≡ length old) × (new ≡ old ++ b ∷ [])

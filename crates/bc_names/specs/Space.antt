-- The names of a space as contracts see them.
use Rattle.std.specs.Prelude.{ℕ, List, map}
use Rattle.std.specs.declared.vec.Vec.{Vec}

abbrev pub names_of : {Z : Type 0} → List (Vec ℕ Z) → List (List ℕ)
names_of keys = map (λ k. k.items) keys

-- The objects that failures touched.
use Rattle.std.specs.Prelude.{ℕ, List, [], ◌∷◌, ◌++◌}
use Rattle.bc_mean.specs.Serial.{Failed}

-- the touched objects of each, one after the other
abbrev pub touched_in : List Failed → List ℕ
touched_in [] = []
touched_in (f ∷ fs) = f.touched ++ touched_in fs

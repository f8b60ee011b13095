-- The bodies that a run was given so far, in order.
use Rattle.std.specs.Prelude.{ℕ, if◌then◌else◌, ◌==◌, List, [], ◌∷◌, map, Some, None}
use Rattle.bc_data.specs.declared.run.Written.{Written}
use Rattle.bc_mean.specs.Work.{Look}

-- the bodies given, by number
abbrev pub given_look : List Written → Look
given_look [] id = None
given_look (g ∷ gs) id = if g.id == id then Some g.body else given_look gs id

abbrev pub ids_of : List Written → List ℕ
ids_of gs = map (λ (g : Written). g.id) gs

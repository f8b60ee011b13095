-- The objects that invocations name.
use Rattle.std.specs.Prelude.{ℕ, List, [], ◌∷◌, ◌++◌}
use Rattle.bc_data.specs.declared.run.Invocation.{Invocation}

-- the objects of each, in order
abbrev pub named_in : List Invocation → List ℕ
named_in [] = []
named_in (v ∷ vs) = v.objects ++ named_in vs

-- Which objects and invocations are in a list.
use Rattle.std.specs.Prelude.{ℕ, Bool, ◌==◌, List, None, Option, slice_index_or}
use Rattle.std.specs.List.{list_any}
use Rattle.bc_data.specs.declared.run.Invocation.{Invocation}

abbrev pub has : List ℕ → ℕ → Bool
has ids id = list_any (λ other. other == id) ids

-- the invocation names the object
abbrev pub names : ℕ → Invocation → Bool
names id v = has v.objects id

-- what a worker has, if it has anything
abbrev pub held_by : List (Option Invocation) → ℕ → Option Invocation
held_by held worker = slice_index_or held worker None

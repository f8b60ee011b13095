-- The order of invocations.
use Rattle.std.specs.Prelude.{◌≡◌, Bool, true, List, AllPairs}
use Rattle.std.specs.declared.cmp.Ordering.{Ordering}
use Rattle.std.specs.Ordering.{ordering_then, nat_cmp, is_lt}
use Rattle.std.specs.Cmp.Lexicographic.{slice_cmp}
use Rattle.bc_data.specs.declared.run.Invocation.{Invocation}

-- by task, then objects, then instances, each list number by number
abbrev pub invocation_cmp : Invocation → Invocation → Ordering
invocation_cmp v w =
    ordering_then (nat_cmp v.task w.task) (ordering_then (slice_cmp nat_cmp v.objects w.objects) (slice_cmp nat_cmp v.tags w.tags))

abbrev pub precedes : Invocation → Invocation → Bool
precedes v w = is_lt (invocation_cmp v w)

-- each precedes all later ones
abbrev pub IsAscending : List Invocation → Type 0
IsAscending vs = AllPairs (λ v w. precedes v w ≡ true) vs

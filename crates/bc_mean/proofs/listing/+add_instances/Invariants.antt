use Rattle.std.proofs.Common.{◌≡◌, ◌-◌, [], ◌∷◌, ◌++◌, length}
use Rattle.std.specs.List.{range_with_len, flat_map}
use Rattle.bc_mean.specs.Listing.{listed_behind, enabled_with}
use Rattle.bc_mean.proofs.listing.+add_instances.Given as goal

abbrev pub decreases-add_instances : goal.decreases-add_instances
decreases-add_instances l = l.left

-- those of the numbers so far
abbrev pub invariant-loop-n : goal.invariant-loop-n
invariant-loop-n l =
    l.found ≡ l.fn.found ++ flat_map (λ n. listed_behind (enabled_with l.task l.store l.number l.objects) (length l.store.tags) (l.front ++ n ∷ []) (l.left - 1)) (range_with_len 0 l.n)

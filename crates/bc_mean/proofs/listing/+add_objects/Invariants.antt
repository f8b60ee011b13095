use Rattle.std.proofs.Common.{◌≡◌, ◌-◌, [], ◌∷◌, ◌++◌, length}
use Rattle.std.specs.List.{range_with_len, flat_map}
use Rattle.bc_mean.specs.Listing.{listed_behind, enabled_on}
use Rattle.bc_mean.proofs.listing.+add_objects.Given as goal

abbrev pub decreases-add_objects : goal.decreases-add_objects
decreases-add_objects l = l.left

-- those of the objects so far
abbrev pub invariant-loop-id : goal.invariant-loop-id
invariant-loop-id l =
    l.found ≡ l.fn.found ++ flat_map (λ id. listed_behind (enabled_on l.task l.store l.number) (length l.store.bodies) (l.front ++ id ∷ []) (l.left - 1)) (range_with_len 0 l.id)

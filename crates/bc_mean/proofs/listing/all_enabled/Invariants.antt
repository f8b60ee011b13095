use Rattle.std.proofs.Common.{◌≡◌}
use Rattle.std.specs.Prelude.{slice_get}
use Rattle.std.specs.List.{range_with_len, flat_map}
use Rattle.bc_mean.specs.Listing.{enabled_of}
use Rattle.bc_mean.proofs.listing.all_enabled.Given as goal

-- those of the tasks so far
abbrev pub invariant-loop-number : goal.invariant-loop-number
invariant-loop-number l = l.found ≡ flat_map (λ n. enabled_of l.store n (slice_get l.program.tasks n)) (range_with_len 0 l.number)

-- When a guard holds of an object's flags.
use Rattle.std.specs.Prelude.{ℕ, Bool, not, ◌&&◌, ◌||◌, ◌==◌}
use Rattle.std.specs.Int.{bit_at}
use Rattle.bc_data.specs.Typed.{TypedGuard, FlagIs, FlagTruth, FlagNot, FlagAnd, FlagOr}

-- a flag is set where its bit of the mask is 1
abbrev pub is_set : ℕ → ℕ → Bool
is_set mask f = bit_at mask f == 1

abbrev pub guard_truth : TypedGuard → ℕ → Bool
guard_truth (FlagIs f) mask = is_set mask f
guard_truth (FlagTruth b) mask = b
guard_truth (FlagNot g) mask = not (guard_truth g mask)
guard_truth (FlagAnd g h) mask = guard_truth g mask && guard_truth h mask
guard_truth (FlagOr g h) mask = guard_truth g mask || guard_truth h mask

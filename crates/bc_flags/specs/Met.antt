-- When the tests of a guard are met by a mask.
use Rattle.std.specs.Prelude.{ℕ, ◌+◌, Bool, true, false, not, ◌&&◌, ◌||◌, ◌==◌}
use Rattle.std.specs.Int.Bits.{bit_and}
use Rattle.bc_data.specs.declared.program.FlagExpr.{FlagExpr}
use Rattle.bc_data.specs.declared.program.FlagExpr as flag
use Rattle.bc_flags.specs.declared.guard.Form.{Form}
use Rattle.bc_flags.specs.declared.guard.Form as form
use Rattle.bc_flags.specs.declared.guard.Run.{Run}
use Rattle.bc_flags.specs.declared.guard.Run.TheVariants as run

-- each bit of `set` is 1 and each of `clear` is 0
abbrev pub all_met : ℕ → ℕ → ℕ → Bool
all_met set clear mask = (bit_and mask set == set) && (bit_and mask clear == 0)

abbrev pub is_met : Form → ℕ → Bool
is_met (form.All set clear) mask = all_met set clear mask
is_met (form.Any set clear) mask = not (all_met clear set mask)
is_met (form.Both' p f q g) mask = is_met f mask && is_met g mask
is_met (form.Either' p f q g) mask = is_met f mask || is_met g mask

-- how many tests of a mask there are
abbrev pub test_count : Form → ℕ
test_count (form.All set clear) = 1
test_count (form.Any set clear) = 1
test_count (form.Both' p f q g) = test_count f + test_count g
test_count (form.Either' p f q g) = test_count f + test_count g

-- how many flags and truth values are written in a guard
abbrev pub leaf_count : FlagExpr → ℕ
leaf_count (flag.Flag f) = 1
leaf_count (flag.Truth b) = 1
leaf_count (flag.Not' p g) = leaf_count g
leaf_count (flag.And' p g q h) = leaf_count g + leaf_count h
leaf_count (flag.Or' p g q h) = leaf_count g + leaf_count h

-- the truth itself, or its opposite where that is wanted
abbrev pub agree : Bool → Bool → Bool
agree true truth = truth
agree false truth = not truth

-- what a run joins: by `and` where all are wanted, by `or` where any is
abbrev pub joined : Run → Bool → Bool → Bool
joined run.All x y = x && y
joined run.Any x y = x || y

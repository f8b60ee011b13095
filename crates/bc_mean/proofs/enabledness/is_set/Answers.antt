use Rattle.std.proofs.Common.{◌≡◌, ℕ, ◌^◌, ◌≤◌, ◌<◌, false, sym, refl}
use Rattle.std.proofs.lemmas.Nat.Bits.{bit_at_above}
use Rattle.bc_data.specs.Guard.{is_set}
use Rattle.bc_mean.proofs.enabledness.is_set.Goals as goal

-- a mask of 32 bits has no flag of 32 or more
none_above : (flag mask : ℕ) → 32 ≤ flag → mask < 2 ^ 32 → is_set mask flag ≡ false
none_above flag mask h k = rw (bit_at_above mask 32 flag k h) refl

pub returns-then-flag-ge-BITS : goal.returns-then-flag-ge-BITS
returns-then-flag-ge-BITS c = sym (none_above c.args.flag c.args.mask c.if-flag-ge-BITS.true c.ranges.mask.fits)

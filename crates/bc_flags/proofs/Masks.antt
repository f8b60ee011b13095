-- One flag as a test of a mask, and two tests as one.
use Rattle.std.proofs.Common.{◌≡◌, ℕ, ◌*◌, ◌%◌, ◌^◌, ◌<◌, ◌≤◌, Bool, true, false, not, ◌&&◌, ◌||◌, eqb, bit_and, bit_or, ap, ◌∙◌, arith, inl, inr, refl, zero, suc}
use Rattle.std.proofs.Math.Bool.{and-true}
use Rattle.std.specs.Int.{bit_at}
use Rattle.std.specs.Int.Bits.{and_zero_r}
use Rattle.std.proofs.lemmas.Bool.{eq-eqb}
use Rattle.std.proofs.lemmas.Bool.Decides.{eqb_tells}
use Rattle.std.proofs.lemmas.Nat.{pow_pos}
use Rattle.std.proofs.lemmas.Nat.Bits.{and_pow, bit_at-lt, bit_at-zero, bit_at_above, bit_at_and, bit_at_or, same_from_bits}
use Rattle.std.proofs.Math.Pow.{pow-lt}
use Rattle.bc_data.specs.Guard.{is_set}
use Rattle.bc_flags.specs.Met.{all_met, agree}

-- ---- one flag
shifted : (f : ℕ) → f < 32 → 1 * 2 ^ f % 2 ^ 32 ≡ 2 ^ f
shifted f h = omega (arith, pow-lt {i = f} {j = 32} h)

set_test : (b p : ℕ) → b < 2 → 0 < p → eqb (b * p) p ≡ eqb b 1
set_test zero p h k = grind arith
set_test (suc zero) p h k = grind arith
set_test (suc (suc b)) p h k = absurd (omega arith)

clear_test : (b p : ℕ) → b < 2 → 0 < p → eqb (b * p) 0 ≡ not (eqb b 1)
clear_test zero p h k = grind arith
clear_test (suc zero) p h k = grind arith
clear_test (suc (suc b)) p h k = absurd (omega arith)

pub set_flag : (f mask : ℕ) → f < 32 → all_met (1 * 2 ^ f % 2 ^ 32) 0 mask ≡ is_set mask f
set_flag f mask h = rw (shifted f h, and_pow mask f, and_zero_r mask, set_test (bit_at mask f) (2 ^ f) (bit_at-lt mask f) (pow_pos f)) (and-true _)

pub clear_flag : (f mask : ℕ) → f < 32 → all_met 0 (1 * 2 ^ f % 2 ^ 32) mask ≡ not (is_set mask f)
clear_flag f mask h = rw (shifted f h, and_pow mask f, and_zero_r mask) (clear_test (bit_at mask f) (2 ^ f) (bit_at-lt mask f) (pow_pos f))

-- a mask of 32 bits has no flag of 32 or more
pub no_flag : (f mask : ℕ) → 32 ≤ f → mask < 2 ^ 32 → is_set mask f ≡ false
no_flag f mask h k = rw (bit_at_above mask 32 f k h) refl

not_not : (b : Bool) → not (not b) ≡ b
not_not true = refl
not_not false = refl

pub not_clear : (f mask : ℕ) → f < 32 → not (all_met 0 (1 * 2 ^ f % 2 ^ 32) mask) ≡ is_set mask f
not_clear f mask h = ap not (clear_flag f mask h) ∙ not_not (is_set mask f)

pub not_set : (f mask : ℕ) → f < 32 → not (all_met (1 * 2 ^ f % 2 ^ 32) 0 mask) ≡ not (is_set mask f)
not_set f mask h = ap not (set_flag f mask h)

pub agree_false : (wanted : Bool) → agree wanted false ≡ not wanted
agree_false true = refl
agree_false false = refl

-- ---- two tests as one
both_tests : (a b c d x y : ℕ) → (a ≡ b → (c ≡ d) × (x ≡ y)) → (c ≡ d → x ≡ y → a ≡ b) → eqb a b ≡ (eqb c d && eqb x y)
both_tests a b c d x y h k = elim (eqb_tells a b) [
  | inl (e, p) ↦ let (q, r) = h p in rw (e, eq-eqb c d q, eq-eqb x y r) refl
  | inr (e, p) ↦ elim (eqb_tells c d) [
    | inr (f, q) ↦ rw (e, f) refl
    | inl (f, q) ↦ elim (eqb_tells x y) [
      | inr (g, r) ↦ rw (e, f, g) refl
      | inl (g, r) ↦ absurd (p (k q r))
    ]
  ]
]

set_bits : (m s t : ℕ) → bit_and m (bit_or s t) ≡ bit_or s t → bit_and m s ≡ s
set_bits m s t h = same_from_bits _ _ (λ i. omega (arith, ap (λ n. bit_at n i) h, bit_at_and m (bit_or s t) i, bit_at_or s t i, bit_at_and m s i))

set_bits_too : (m s t : ℕ) → bit_and m (bit_or s t) ≡ bit_or s t → bit_and m t ≡ t
set_bits_too m s t h = same_from_bits _ _ (λ i. omega (arith, ap (λ n. bit_at n i) h, bit_at_and m (bit_or s t) i, bit_at_or s t i, bit_at_and m t i))

set_joined : (m s t : ℕ) → bit_and m s ≡ s → bit_and m t ≡ t → bit_and m (bit_or s t) ≡ bit_or s t
set_joined m s t h k = same_from_bits _ _ (λ i. omega (arith, ap (λ n. bit_at n i) h, ap (λ n. bit_at n i) k, bit_at_and m (bit_or s t) i, bit_at_or s t i, bit_at_and m s i, bit_at_and m t i))

clear_bits : (m s t : ℕ) → bit_and m (bit_or s t) ≡ 0 → bit_and m s ≡ 0
clear_bits m s t h = same_from_bits _ _ (λ i. omega (arith, ap (λ n. bit_at n i) h, bit_at-zero i, bit_at_and m (bit_or s t) i, bit_at_or s t i, bit_at_and m s i))

clear_bits_too : (m s t : ℕ) → bit_and m (bit_or s t) ≡ 0 → bit_and m t ≡ 0
clear_bits_too m s t h = same_from_bits _ _ (λ i. omega (arith, ap (λ n. bit_at n i) h, bit_at-zero i, bit_at_and m (bit_or s t) i, bit_at_or s t i, bit_at_and m t i))

clear_joined : (m s t : ℕ) → bit_and m s ≡ 0 → bit_and m t ≡ 0 → bit_and m (bit_or s t) ≡ 0
clear_joined m s t h k = same_from_bits _ _ (λ i. omega (arith, ap (λ n. bit_at n i) h, ap (λ n. bit_at n i) k, bit_at-zero i, bit_at_and m (bit_or s t) i, bit_at_or s t i, bit_at_and m s i, bit_at_and m t i))

four : (a b c d : Bool) → ((a && b) && (c && d)) ≡ ((a && c) && (b && d))
four true true c d = refl
four true false true d = refl
four true false false d = refl
four false b c d = refl

pub all_joined : (s c t d mask : ℕ) → all_met (bit_or s t) (bit_or c d) mask ≡ (all_met s c mask && all_met t d mask)
all_joined s c t d mask =
    rw (
      both_tests (bit_and mask (bit_or s t)) (bit_or s t) (bit_and mask s) s (bit_and mask t) t (λ h. (set_bits mask s t h, set_bits_too mask s t h)) (set_joined mask s t),
      both_tests (bit_and mask (bit_or c d)) 0 (bit_and mask c) 0 (bit_and mask d) 0 (λ h. (clear_bits mask c d h, clear_bits_too mask c d h)) (clear_joined mask c d),
    )
    (four (eqb (bit_and mask s) s) (eqb (bit_and mask t) t) (eqb (bit_and mask c) 0) (eqb (bit_and mask d) 0))

not_both : (a b : Bool) → not (a && b) ≡ (not a || not b)
not_both true b = refl
not_both false b = refl

pub any_joined : (s c t d mask : ℕ) → not (all_met (bit_or s t) (bit_or c d) mask) ≡ (not (all_met s c mask) || not (all_met t d mask))
any_joined s c t d mask = ap not (all_joined s c t d mask) ∙ not_both (all_met s c mask) (all_met t d mask)

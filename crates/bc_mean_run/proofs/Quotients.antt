-- The bits of a quotient or of a negated number are those of the number, wrapped.
use Rattle.std.proofs.Common.{◌≡◌, ◌⊎◌, inl, inr, ℕ, zero, suc, ◌/◌, ◌≤◌, ℤ, pos, negsuc, neg_ℤ, FitsSigned, to_z, of_z, w32, refl, sym, ap, ◌∙◌, arith}
use Rattle.std.specs.Prelude.{int_div}
use Rattle.std.specs.Int.{int_wrap}
use Rattle.std.proofs.Math.Nat.{div-le_self}
use Rattle.std.proofs.lemmas.Bool.{cases_eq}
use Rattle.std.proofs.lemmas.Int.{to_z-of_z, int_wrap_fits, SFits-int_wrap}

-- the number of these bits
abbrev cast : ℤ → ℤ
cast z = to_z w32 (of_z w32 z)

fitting : (z : ℤ) → FitsSigned w32 z → cast z ≡ int_wrap w32 z
fitting z fits = to_z-of_z w32 z fits ∙ sym (int_wrap_fits w32 z fits)

greatest : cast (pos 2147483648) ≡ int_wrap w32 (pos 2147483648)
unfolding int_wrap
greatest = refl

up_to_by : (n : ℕ) → n ≤ 2147483648 → (n ≡ 2147483648) ⊎ (n ≡ 2147483648 → ⊥) → cast (pos n) ≡ int_wrap w32 (pos n)
up_to_by n few (inl same) = ap (λ m. cast (pos m)) same ∙ greatest ∙ ap (λ m. int_wrap w32 (pos m)) (sym same)
up_to_by n few (inr other) = fitting (pos n) (record { sfits = omega arith })

up_to : (n : ℕ) → n ≤ 2147483648 → cast (pos n) ≡ int_wrap w32 (pos n)
up_to n few = up_to_by n few (cases_eq n 2147483648)

down_to : (n : ℕ) → n ≤ 2147483648 → cast (neg_ℤ (pos n)) ≡ int_wrap w32 (neg_ℤ (pos n))
down_to zero few = fitting (pos 0) (record { sfits = omega arith })
down_to (suc n) few = fitting (negsuc n) (record { sfits = omega arith })

pub quotient_wraps : (a b : ℤ) → FitsSigned w32 a → cast (int_div a b) ≡ int_wrap w32 (int_div a b)
quotient_wraps (pos a) (pos b) fits = up_to (a / b) (omega (arith, div-le_self a b, fits.sfits))
quotient_wraps (pos a) (negsuc b) fits = down_to (a / suc b) (omega (arith, div-le_self a (suc b), fits.sfits))
quotient_wraps (negsuc a) (pos b) fits = down_to (suc a / b) (omega (arith, div-le_self (suc a) b, fits.sfits))
quotient_wraps (negsuc a) (negsuc b) fits = up_to (suc a / suc b) (omega (arith, div-le_self (suc a) (suc b), fits.sfits))

-- a result that equals one that wraps
pub kept : (r z : ℤ) → r ≡ int_wrap w32 z → cast r ≡ int_wrap w32 z
kept r z e = ap cast e ∙ to_z-of_z w32 (int_wrap w32 z) (SFits-int_wrap w32 z)

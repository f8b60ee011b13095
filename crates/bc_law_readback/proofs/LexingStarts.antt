-- What begins with a byte.
use Rattle.std.proofs.Common.{◌≡◌, ℕ, ◌≤◌, ◌==◌, ◌&&◌, ◌||◌, inl, inr, true, false, nat_le, refl, ap, sym, ◌∙◌, arith}
use Rattle.std.proofs.lemmas.Bool.{and_parts, or_cases, leb-true, eqb-true, lt-leb, le-leb, ne_eqb, false≢true}
use Rattle.bc_data.specs.Lexical.{is_digit, is_letter, is_name_byte, Digits, Letters, start_of}

digit_range : (b : ℕ) → is_digit b ≡ true → (48 ≤ b) × (b ≤ 57)
digit_range b h = let both = and_parts (nat_le 48 b) (nat_le b 57) h in (leb-true 48 b both.0, leb-true b 57 both.1)

letter_range : (b : ℕ) → is_letter b ≡ true → (65 ≤ b) × (b ≤ 122)
letter_range b h =
    elim (or_cases ((nat_le 65 b && nat_le b 90) || (nat_le 97 b && nat_le b 122)) (b == 95) h) [
      | inl either ↦ elim (or_cases (nat_le 65 b && nat_le b 90) (nat_le 97 b && nat_le b 122) either) [
        | inl large ↦ (let both = and_parts (nat_le 65 b) (nat_le b 90) large in let low = leb-true 65 b both.0 in let high = leb-true b 90 both.1 in (omega arith, omega arith))
        | inr small ↦ (let both = and_parts (nat_le 97 b) (nat_le b 122) small in let low = leb-true 97 b both.0 in let high = leb-true b 122 both.1 in (omega arith, omega arith))
      ]
      | inr line ↦ (let e = eqb-true b 95 line in (omega arith, omega arith))
    ]

pub digits_start : (b c : ℕ) → is_digit b ≡ true → start_of b c ≡ Digits
unfolding start_of
digits_start b c h =
    let range = digit_range b h in
    simp (ne_eqb b 9 (λ e. omega arith), ne_eqb b 10 (λ e. omega arith), ne_eqb b 13 (λ e. omega arith), ne_eqb b 32 (λ e. omega arith), ne_eqb b 47 (λ e. omega arith), le-leb 48 b range.0, le-leb b 57 range.1)

pub letters_start : (b c : ℕ) → is_letter b ≡ true → start_of b c ≡ Letters
unfolding start_of
letters_start b c h =
    let range = letter_range b h in
    rw (ne_eqb b 9 (λ e. omega arith), ne_eqb b 10 (λ e. omega arith), ne_eqb b 13 (λ e. omega arith), ne_eqb b 32 (λ e. omega arith), ne_eqb b 47 (λ e. omega arith), le-leb 48 b (omega arith), lt-leb b 57 (omega arith), h) refl

-- a name has no `=`
pub not_equal : (b : ℕ) → is_name_byte b ≡ true → (b == 61) ≡ false
not_equal b h = ne_eqb b 61 (λ e. false≢true (ap is_name_byte (sym e) ∙ h))

-- A number is read from its decimal digits.
use Rattle.std.proofs.Common.{◌≡◌, ℕ, ◌+◌, ◌-◌, ◌*◌, ◌/◌, ◌%◌, ◌<◌, ◌≤◌, ◌==◌, ◌&&◌, nat_lt, nat_le, inl, inr, Bool, true, false, IsTrue, List, [], ◌∷◌, ◌++◌, length, slice_index, Some, ℤ, pos, refl, ap, sym, ◌∙◌, subst, arith}
use Rattle.std.specs.Fmt.{decimal, signed_decimal}
use Rattle.std.proofs.lemmas.Fmt.{decimal_by_steps, decimal_digit, decimal_nonempty, first_decimal}
use Rattle.std.proofs.lemmas.List.Sums.{fold-append}
use Rattle.std.proofs.lemmas.Bool.{and_from, and_parts, or_right, le-leb, le-ltb, ne_eqb, cases_eq}
use Rattle.bc_data.specs.Lexical.{is_digit, is_letter, is_name_byte}
use Rattle.bc_data.specs.Seen.{Number}
use Rattle.bc_data.specs.Spelling.{digits_value, number_of}
use Rattle.bc_law_readback.specs.Parts.{all_of, IsSpellable}
use Rattle.bc_law_readback.proofs.LexingBytes.{all_at}

-- bytes that are digits, and have this value
abbrev pub Writes : ℕ → List ℕ → Type 0
Writes n digits = IsTrue (all_of is_digit digits) × (digits_value digits ≡ n)

all_push : (test : ℕ → Bool) (bytes : List ℕ) (b : ℕ) → IsTrue (all_of test bytes) → test b ≡ true → IsTrue (all_of test (bytes ++ b ∷ []))
all_push test [] b all here = and_from (test b) true here refl
all_push test (x ∷ xs) b all here =
    let both = and_parts (test x) (all_of test xs) all in
    and_from (test x) (all_of test (xs ++ b ∷ [])) both.0 (all_push test xs b both.1 here)

digit : (d : ℕ) → d < 10 → is_digit (48 + d) ≡ true
digit d h = and_from (nat_le 48 (48 + d)) (nat_le (48 + d) 57) (le-leb 48 (48 + d) (omega arith)) (le-leb (48 + d) 57 (omega arith))

one_digit : (n : ℕ) → n < 10 → Writes n ((48 + n) ∷ [])
one_digit n h = (and_from (is_digit (48 + n)) true (digit n h) refl, omega arith)

more_digits : (n : ℕ) (ds : List ℕ) → 10 ≤ n → Writes (n / 10) ds → Writes n (ds ++ ((48 + n % 10) ∷ []))
more_digits n ds h w =
    let front : digits_value ds ≡ n / 10 = w.1 in
    let last : n % 10 < 10 = omega arith in
    let whole : 10 * (n / 10) + (48 + n % 10 - 48) ≡ n = omega arith in
    (all_push is_digit ds (48 + n % 10) w.0 (digit (n % 10) last), fold-append (λ value digit. 10 * value + (digit - 48)) 0 ds ((48 + n % 10) ∷ []) ∙ ap (λ v. 10 * v + (48 + n % 10 - 48)) front ∙ whole)

-- the decimal of a number writes it
pub decimal_writes : (n : ℕ) → n ≤ 2147483647 → Writes n (decimal n)
decimal_writes n h = decimal_by_steps Writes one_digit more_digits n (omega arith)

-- a decimal doesn't begin with 0, but for 0 itself
no_zero : (n : ℕ) → n ≤ 2147483647 → (slice_index (decimal n) 0 == 48 && nat_lt 1 (length (decimal n))) ≡ false
no_zero n h = elim (cases_eq n 0) [
  | inl e ↦ rw e (ap (λ ds. slice_index ds 0 == 48 && nat_lt 1 (length ds)) (decimal_digit 0 (omega arith)))
  | inr e ↦ (let first : 48 < slice_index (decimal n) 0 = first_decimal n (omega (arith, e)) (omega arith) in rw (ne_eqb (slice_index (decimal n) 0) 48 (λ e. omega arith)) refl)
]

-- the value that the lexer reads from a decimal
pub number_back : (n : ℕ) → n ≤ 2147483647 → number_of (decimal n) ≡ Some (pos n)
unfolding number_of
number_back n h =
    let value : digits_value (decimal n) ≡ n = (decimal_writes n h).1 in
    rw (no_zero n h, value, le-ltb 2147483647 n h) refl

digit_name : (b : ℕ) → is_digit b ≡ true → is_name_byte b ≡ true
digit_name b h = or_right (is_letter b) (is_digit b) h

pub front_first : (digits after : List ℕ) → 0 < length digits → slice_index (digits ++ after) 0 ≡ slice_index digits 0
front_first [] after h = absurd (omega arith)
front_first (d ∷ ds) after h = refl

-- a number begins with a digit
pub number_first : (n : ℤ) (after : List ℕ) → IsSpellable (Number n) → is_name_byte (slice_index (signed_decimal n ++ after) 0) ≡ true
number_first n after (k, e, h) =
    let some : 0 < length (decimal k) = decimal_nonempty k (omega arith) in
    let byte : slice_index (decimal k ++ after) 0 ≡ slice_index (decimal k) 0 = front_first (decimal k) after some in
    let here : is_digit (slice_index (decimal k) 0) ≡ true = all_at is_digit (decimal k) 0 some (decimal_writes k h).0 in
    subst (λ m. is_name_byte (slice_index (signed_decimal m ++ after) 0) ≡ true) (sym e) (ap is_name_byte byte ∙ digit_name (slice_index (decimal k) 0) here)

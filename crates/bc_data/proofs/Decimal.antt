-- Reading a decimal text: it is the number's where it has only digits and no zero before others.
use Rattle.std.proofs.Common.{◌≡◌, ℕ, zero, suc, ◌<◌, ◌≤◌, ◌^◌, ◌≢◌, List, length, get_or, sym, ◌∙◌, ap, arith, lit<, Ok, Err, inl, inr, ◌⊎◌}
use Rattle.std.specs.Fmt.{decimal}
use Rattle.std.specs.Str.{IsUtf8}
use Rattle.std.proofs.lemmas.Str.{IsUtf8-from_ascii}
use Rattle.std.specs.Str.Parse.{ParsesUnsigned, AllDigits, digits_value}
use Rattle.std.proofs.lemmas.Fmt.{decimal-digits_value, digits_decimal, digits_value-decimal, decimal_nonempty, decimal_digit, first_decimal, IsAscii-decimal}
use Rattle.std.proofs.lemmas.Str.Parse.{IsNumeralModel, numerals_by_value, tells_digits, parse_plain, not_in_digits}

own : IsNumeralModel (AllDigits 10) (digits_value 10)
own = numerals_by_value _ tells_digits

-- a number's text begins with no `+`
pub no_plus : (bs : List ℕ) (n : ℕ) → get_or bs 0 0 ≡ 43 → n < 2 ^ 64 → bs ≡ decimal n → ⊥
no_plus bs n plus small e =
    let digits : AllDigits 10 (decimal n) = digits_decimal own n small in
    let some : 0 < length (decimal n) = decimal_nonempty n small in
    not_in_digits own (decimal n) 43 digits (λ h. omega (arith, h)) 0 some (sym (ap (λ x. get_or x 0 0) e) ∙ plus)

-- and with a zero only where it is that zero
pub no_leading_zero : (bs : List ℕ) (n : ℕ) → get_or bs 0 0 ≡ 48 → 1 < length bs → n < 2 ^ 64 → bs ≡ decimal n → ⊥
no_leading_zero bs zero _ more small e =
    let one : length bs ≡ 1 = ap length (e ∙ decimal_digit 0 (lit< tt)) in
    omega arith
no_leading_zero bs (suc m) z more small e =
    let first : 48 < get_or (decimal (suc m)) 0 0 = first_decimal (suc m) (omega arith) small in
    let same : get_or bs 0 0 ≡ get_or (decimal (suc m)) 0 0 = ap (λ x. get_or x 0 0) e in
    omega arith

pub parsed : (bs : List ℕ) (x : ℕ) → ParsesUnsigned {E = Unit {0}} 64 10 bs (Ok x) → get_or bs 0 0 ≢ 43 → ((get_or bs 0 0 ≡ 48 × length bs ≤ 1) ⊎ (get_or bs 0 0 ≢ 48)) → bs ≡ decimal x
parsed bs x h plus lone =
    let p : ((AllDigits 10 bs × (0 < length bs) × (digits_value 10 bs < 2 ^ 64)) × (x ≡ digits_value 10 bs)) = parse_plain own {E = Unit {0}} 64 bs (Ok x) h plus in
    let some : 0 < length bs = p.0.1 in
    let alone : get_or bs 0 0 ≡ 48 → length bs ≡ 1 =
    λ z. elim lone [ inl (_, short) ↦ omega arith | inr other ↦ absurd (other z) ] in
    rw p.1 (sym (decimal-digits_value own bs p.0.0 some alone p.0.2))

pub not_parsed : {E : Type 0} (bs : List ℕ) (e : E) (n : ℕ) → ParsesUnsigned {E = E} 64 10 bs (Err e) → get_or bs 0 0 ≢ 43 → n < 2 ^ 64 → bs ≡ decimal n → ⊥
not_parsed bs e n h plus small eq =
    let p = parse_plain own 64 bs (Err e) h plus in
    let digits : AllDigits 10 (decimal n) = digits_decimal own n small in
    let some : 0 < length (decimal n) = decimal_nonempty n small in
    let value : digits_value 10 (decimal n) ≡ n = digits_value-decimal own n small in
    p (rw eq (digits, some, rw value small))

pub not_utf8 : (bs : List ℕ) (n : ℕ) → ¬ (IsUtf8 bs) → n < 2 ^ 64 → bs ≡ decimal n → ⊥
not_utf8 bs n wrong small e = wrong (rw e (IsUtf8-from_ascii _ (IsAscii-decimal n small)))

pub not_empty : (bs : List ℕ) (n : ℕ) → length bs ≡ 0 → n < 2 ^ 64 → bs ≡ decimal n → ⊥
not_empty bs n none small e =
    let some : 0 < length (decimal n) = decimal_nonempty n small in
    let same : length bs ≡ length (decimal n) = ap length e in
    omega arith

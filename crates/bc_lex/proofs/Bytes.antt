-- Bytes at offsets.
use Rattle.std.proofs.Common.{◌≡◌, ℕ, ◌+◌, ◌<◌, ◌≤◌, ◌==◌, Bool, true, false, nat_le, cond, List, length, slice_index, refl, ap, sym, ◌∙◌, arith, ◌⊎◌, inl, inr}
use Rattle.std.proofs.lemmas.Bool.{cases_lt, false≢true, leb-false, or_parts}
use Rattle.std.proofs.lemmas.List.{get_or_past}
use Rattle.bc_data.specs.Lexical.{is_plain, is_escape, is_missing, escaped_at, character_at, Whole, Quote, Missing, Wrong}

-- a byte that isn't 0 is within the text
pub inside : (test : ℕ → Bool) (text : List ℕ) (i : ℕ) → test 0 ≡ false → test (slice_index text i) ≡ true → i < length text
inside test text i never here =
    elim (cases_lt i (length text)) [
      | inl h ↦ h
      | inr h ↦ absurd (false≢true (sym never ∙ ap test (sym (get_or_past text i 0 h)) ∙ here))
    ]

-- which way a choice went
pub chosen : {A : Type 0} (b : Bool) (x y z : A) → cond b x y ≡ z → ((b ≡ true) × (x ≡ z)) ⊎ ((b ≡ false) × (y ≡ z))
chosen true x y z h = inl (refl, h)
chosen false x y z h = inr (refl, h)

escaped_inside : (text : List ℕ) (i len : ℕ) → escaped_at text i ≡ Whole len → (len ≡ 2) × (i < length text)
escaped_inside text i len e =
    elim (chosen (is_escape (slice_index text i)) (Whole 2) (cond (is_missing text i) Missing (Wrong i)) (Whole len) e) [
      | inl h ↦ (let two : ◌≡◌ {A = ℕ} 2 len = cc in sym two, inside is_escape text i refl h.0)
      | inr h ↦ elim (chosen (is_missing text i) Missing (Wrong i) (Whole len) h.1) [ inl k ↦ (let never : ⊥ = cc in absurd never) | inr k ↦ (let never : ⊥ = cc in absurd never) ]
    ]

-- a whole character ends within the text
pub whole_inside : (text : List ℕ) (i len : ℕ) → character_at text i ≡ Whole len → (0 < len) × (i + len ≤ length text)
unfolding character_at
whole_inside text i len e =
    let b = slice_index text i in
    elim (chosen (is_plain b) (Whole 1) (cond (b == 34) Quote (cond (b == 92) (escaped_at text (i + 1)) (cond (is_missing text i) Missing (Wrong i)))) (Whole len) e) [
      | inl h ↦ (let one : ◌≡◌ {A = ℕ} 1 len = cc in let in_text : i < length text = inside is_plain text i refl h.0 in (omega arith, omega arith))
      | inr h ↦ elim (chosen (b == 34) Quote (cond (b == 92) (escaped_at text (i + 1)) (cond (is_missing text i) Missing (Wrong i))) (Whole len) h.1) [
        | inl k ↦ (let never : ⊥ = cc in absurd never)
        | inr k ↦ elim (chosen (b == 92) (escaped_at text (i + 1)) (cond (is_missing text i) Missing (Wrong i)) (Whole len) k.1) [
          | inl m ↦ (let two : (len ≡ 2) × (i + 1 < length text) = escaped_inside text (i + 1) len m.1 in (omega arith, omega arith))
          | inr m ↦ elim (chosen (is_missing text i) Missing (Wrong i) (Whole len) m.1) [ inl n ↦ (let never : ⊥ = cc in absurd never) | inr n ↦ (let never : ⊥ = cc in absurd never) ]
        ]
      ]
    ]

never_quote : (text : List ℕ) (i : ℕ) → escaped_at text i ≡ Quote → ⊥
never_quote text i e =
    elim (chosen (is_escape (slice_index text i)) (Whole 2) (cond (is_missing text i) Missing (Wrong i)) Quote e) [
      | inl h ↦ cc
      | inr h ↦ elim (chosen (is_missing text i) Missing (Wrong i) Quote h.1) [ inl k ↦ cc | inr k ↦ cc ]
    ]

-- a closing quote is within the text
pub quote_inside : (text : List ℕ) (i : ℕ) → character_at text i ≡ Quote → i < length text
unfolding character_at
quote_inside text i e =
    let b = slice_index text i in
    elim (chosen (is_plain b) (Whole 1) (cond (b == 34) Quote (cond (b == 92) (escaped_at text (i + 1)) (cond (is_missing text i) Missing (Wrong i)))) Quote e) [
      | inl h ↦ (let never : ⊥ = cc in absurd never)
      | inr h ↦ elim (chosen (b == 34) Quote (cond (b == 92) (escaped_at text (i + 1)) (cond (is_missing text i) Missing (Wrong i))) Quote h.1) [
        | inl k ↦ inside (λ x. x == 34) text i refl k.0
        | inr k ↦ elim (chosen (b == 92) (escaped_at text (i + 1)) (cond (is_missing text i) Missing (Wrong i)) Quote k.1) [
          | inl m ↦ absurd (never_quote text (i + 1) m.1)
          | inr m ↦ elim (chosen (is_missing text i) Missing (Wrong i) Quote m.1) [ inl n ↦ (let never : ⊥ = cc in absurd never) | inr n ↦ (let never : ⊥ = cc in absurd never) ]
        ]
      ]
    ]

not_missing : (text : List ℕ) (i : ℕ) → is_missing text i ≡ false → i < length text
not_missing text i h = leb-false (length text) i (or_parts (nat_le (length text) i) (slice_index text i == 10) h).0

wrong_escape : (text : List ℕ) (i k : ℕ) → escaped_at text i ≡ Wrong k → (i ≡ k) × (i < length text)
wrong_escape text i k e =
    elim (chosen (is_escape (slice_index text i)) (Whole 2) (cond (is_missing text i) Missing (Wrong i)) (Wrong k) e) [
      | inl h ↦ (let never : ⊥ = cc in absurd never)
      | inr h ↦ elim (chosen (is_missing text i) Missing (Wrong i) (Wrong k) h.1) [ inl m ↦ (let never : ⊥ = cc in absurd never) | inr m ↦ (let same : i ≡ k = cc in same, not_missing text i m.0) ]
    ]

-- a byte that isn't allowed is within the text
pub wrong_inside : (text : List ℕ) (i k : ℕ) → character_at text i ≡ Wrong k → (i ≤ k) × (k < length text)
unfolding character_at
wrong_inside text i k e =
    let b = slice_index text i in
    elim (chosen (is_plain b) (Whole 1) (cond (b == 34) Quote (cond (b == 92) (escaped_at text (i + 1)) (cond (is_missing text i) Missing (Wrong i)))) (Wrong k) e) [
      | inl h ↦ (let never : ⊥ = cc in absurd never)
      | inr h ↦ elim (chosen (b == 34) Quote (cond (b == 92) (escaped_at text (i + 1)) (cond (is_missing text i) Missing (Wrong i))) (Wrong k) h.1) [
        | inl q ↦ (let never : ⊥ = cc in absurd never)
        | inr q ↦ elim (chosen (b == 92) (escaped_at text (i + 1)) (cond (is_missing text i) Missing (Wrong i)) (Wrong k) q.1) [
          | inl m ↦ (let at = wrong_escape text (i + 1) k m.1 in let same : i + 1 ≡ k = at.0 in let within : i + 1 < length text = at.1 in (omega arith, omega arith))
          | inr m ↦ elim (chosen (is_missing text i) Missing (Wrong i) (Wrong k) m.1) [ inl n ↦ (let never : ⊥ = cc in absurd never) | inr n ↦ (let same : i ≡ k = cc in let within : i < length text = not_missing text i n.0 in (omega arith, omega arith)) ]
        ]
      ]
    ]

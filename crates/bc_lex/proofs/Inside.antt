-- A piece is not empty and ends within the text.
use Rattle.std.proofs.Common.{◌≡◌, ℕ, ◌+◌, ◌<◌, ◌≤◌, ◌==◌, ◌&&◌, inl, inr, Bool, true, not, cond, List, length, slice_index, slice_range, refl, sym, ap, ◌∙◌, arith, length-take, length-drop, subst}
use Rattle.std.proofs.lemmas.Bool.{eqb-true, cond_both, and_parts, cases_eq, or_left, false≢true, not_from_true}
use Rattle.bc_data.specs.declared.token.TokenKind.TheVariants.{Keyword, Name, Number, Mark}
use Rattle.bc_data.specs.Spelling.{sign_text}
use Rattle.bc_data.specs.Lexical.{is_blank, is_digit, is_letter, is_name_byte, IsTextFrom, more, closed, unclosed, wrong, Start, Blank, LineComment, BlockComment, Digits, Letters, Opening, Other, start_of, start_at, IsPieceFrom, IsPiece, Piece, Gap, Lexeme, Broken, BadByte, OpenComment, NumberRange, StandsAt, IsRunEnd, IsClosing}
use Rattle.bc_lex.specs.Pieces.{IsInside}
use Rattle.bc_lex.proofs.Bytes.{inside, whole_inside, quote_inside, wrong_inside}
use Rattle.bc_lex.proofs.Tables.{mark_some}

-- what the first two bytes are
abbrev pub Begins : Start → ℕ → ℕ → Type 0
Begins Blank b c = is_blank b ≡ true
Begins LineComment b c = (b == 47 && c == 47) ≡ true
Begins BlockComment b c = (b == 47 && c == 42) ≡ true
Begins Digits b c = is_digit b ≡ true
Begins Letters b c = is_letter b ≡ true
Begins Opening b c = (b == 34) ≡ true
Begins Other b c = Unit {0}

pub begins : (b c : ℕ) → Begins (start_of b c) b c
unfolding start_of
begins b c =
    let P : Start → Type 0 = λ s. Begins s b c in
    cond_both (is_blank b) Blank (cond (b == 47 && c == 47) LineComment (cond (b == 47 && c == 42) BlockComment (cond (is_digit b) Digits (cond (is_letter b) Letters (cond (b == 34) Opening Other))))) P (λ h. h) (λ _.
    cond_both (b == 47 && c == 47) LineComment (cond (b == 47 && c == 42) BlockComment (cond (is_digit b) Digits (cond (is_letter b) Letters (cond (b == 34) Opening Other)))) P (λ h. h) (λ _.
    cond_both (b == 47 && c == 42) BlockComment (cond (is_digit b) Digits (cond (is_letter b) Letters (cond (b == 34) Opening Other))) P (λ h. h) (λ _.
    cond_both (is_digit b) Digits (cond (is_letter b) Letters (cond (b == 34) Opening Other)) P (λ h. h) (λ _.
    cond_both (is_letter b) Letters (cond (b == 34) Opening Other) P (λ h. h) (λ _.
    cond_both (b == 34) Opening Other P (λ h. h) (λ _. tt))))))

pub line_inside : (text : List ℕ) (i : ℕ) → start_at text i ≡ LineComment → i + 2 ≤ length text
line_inside text i e =
    let P : Start → Type 0 = λ s. Begins s (slice_index text i) (slice_index text (i + 1)) in
    let at : i + 1 < length text = inside (λ x. x == 47) text (i + 1) refl (and_parts (slice_index text i == 47) (slice_index text (i + 1) == 47) (subst P e (begins (slice_index text i) (slice_index text (i + 1))))).1 in
    omega arith

pub block_inside : (text : List ℕ) (i : ℕ) → start_at text i ≡ BlockComment → i + 2 ≤ length text
block_inside text i e =
    let P : Start → Type 0 = λ s. Begins s (slice_index text i) (slice_index text (i + 1)) in
    let at : i + 1 < length text = inside (λ x. x == 42) text (i + 1) refl (and_parts (slice_index text i == 47) (slice_index text (i + 1) == 42) (subst P e (begins (slice_index text i) (slice_index text (i + 1))))).1 in
    omega arith

pub digit_first : (text : List ℕ) (i : ℕ) → start_at text i ≡ Digits → is_digit (slice_index text i) ≡ true
digit_first text i e =
    let P : Start → Type 0 = λ s. Begins s (slice_index text i) (slice_index text (i + 1)) in
    subst P e (begins (slice_index text i) (slice_index text (i + 1)))

pub letter_begins : (text : List ℕ) (i : ℕ) → start_at text i ≡ Letters → is_letter (slice_index text i) ≡ true
letter_begins text i e =
    let P : Start → Type 0 = λ s. Begins s (slice_index text i) (slice_index text (i + 1)) in
    subst P e (begins (slice_index text i) (slice_index text (i + 1)))

pub letter_first : (text : List ℕ) (i : ℕ) → start_at text i ≡ Letters → is_name_byte (slice_index text i) ≡ true
letter_first text i e = or_left (is_letter (slice_index text i)) (is_digit (slice_index text i)) (letter_begins text i e)

-- a run whose first byte fits is not empty
run_grows : (fits : ℕ → Bool) (text : List ℕ) (i end : ℕ) → fits (slice_index text i) ≡ true → i < length text → IsRunEnd fits text i end → i < end
run_grows fits text i end first within run =
    elim (cases_eq i end) [
      | inl e ↦ (let here : not (fits (slice_index text end)) ≡ true = run.here (omega arith) in absurd (false≢true (sym (not_from_true (fits (slice_index text i)) first) ∙ ap (λ k. not (fits (slice_index text k))) e ∙ here)))
      | inr other ↦ (let low : i ≤ end = run.from in omega arith)
    ]

stands_inside : (text : List ℕ) (i : ℕ) (bytes : List ℕ) → StandsAt text i bytes → 0 < length bytes → i + length bytes ≤ length text
stands_inside text i bytes h some =
    let e : length (slice_range text i (i + length bytes)) ≡ length bytes = ap length h in
    let f = simp (length-take, length-drop) at e in
    omega arith

text_inside : (text : List ℕ) (opening : ℕ) {i : ℕ} {p : Piece} → opening < i → i ≤ length text → IsTextFrom text opening i p → IsInside text opening p
text_inside text opening low high (more {i} {len} e rest) = let h : (0 < len) × (i + len ≤ length text) = whole_inside text i len e in text_inside text opening (omega arith) (omega arith) rest
text_inside text opening low high (closed {i} e is) = let h : i < length text = quote_inside text i e in subst (λ q. IsInside text opening q) (sym is) (omega arith, omega arith)
text_inside text opening low high (unclosed {i} e is) = subst (λ q. IsInside text opening q) (sym is) (omega arith, omega arith)
text_inside text opening low high (wrong {i} {offset} e is) = let h : (i ≤ offset) × (offset < length text) = wrong_inside text i offset e in subst (λ q. IsInside text opening q) (sym is) (omega arith, omega arith)

piece_inside_from : (start : Start) (text : List ℕ) (i : ℕ) (p : Piece) → start_at text i ≡ start → i < length text → IsPieceFrom start text i p → IsInside text i p
piece_inside_from Blank text i (Gap end) e within h = (omega arith, omega arith)
piece_inside_from LineComment text i (Gap end) e within h = let two = line_inside text i e in (omega (arith, h.from), h.to)
piece_inside_from BlockComment text i (Gap end) e within h =
    let close : ℕ = h.0 in
    let closing : IsClosing text (i + 2) close = h.1 in
    let there : (slice_index text close == 42 && slice_index text (close + 1) == 47) ≡ true = closing.here h.2 in
    let slash : close + 1 < length text = inside (λ x. x == 47) text (close + 1) refl (and_parts (slice_index text close == 42) (slice_index text (close + 1) == 47) there).1 in
    let low : i + 2 ≤ close = closing.from in
    let same : end ≡ close + 2 = h.3 in
    (omega arith, omega arith)
piece_inside_from BlockComment text i (Broken OpenComment at) e within h = (omega arith, omega arith)
piece_inside_from Digits text i (Lexeme (Number n) end) e within h = (run_grows is_digit text i end (digit_first text i e) within h.0, h.0.to)
piece_inside_from Digits text i (Broken NumberRange at) e within h = (omega arith, omega arith)
piece_inside_from Letters text i (Lexeme (Keyword word) end) e within h = (run_grows is_name_byte text i end (letter_first text i e) within h.0, h.0.to)
piece_inside_from Letters text i (Lexeme Name end) e within h = (run_grows is_name_byte text i end (letter_first text i e) within h.0, h.0.to)
piece_inside_from Opening text i p e within h = text_inside text i (omega arith) (omega arith) h
piece_inside_from Other text i (Lexeme (Mark mark) end) e within h =
    let some : 0 < length (sign_text mark) = mark_some mark in
    let high : i + length (sign_text mark) ≤ length text = stands_inside text i (sign_text mark) h.0.stands some in
    let same : end ≡ i + length (sign_text mark) = h.1 in
    (omega arith, omega arith)
piece_inside_from Other text i (Broken BadByte at) e within h = (omega arith, omega arith)
piece_inside_from _ text i p e within h = absurd h

pub piece_inside : (text : List ℕ) (i : ℕ) (p : Piece) → IsPiece text i p → IsInside text i p
piece_inside text i p h = piece_inside_from (start_at text i) text i p refl h.0 h.1

pub quote_first : (text : List ℕ) (i : ℕ) → start_at text i ≡ Opening → slice_index text i ≡ 34
quote_first text i e =
    let P : Start → Type 0 = λ s. Begins s (slice_index text i) (slice_index text (i + 1)) in
    eqb-true (slice_index text i) 34 (subst P e (begins (slice_index text i) (slice_index text (i + 1))))

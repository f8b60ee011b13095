-- The tokens that are seen in a text can be spelled, but for the end.
use Rattle.std.proofs.Common.{◌≡◌, ◌⊎◌, inl, inr, ℕ, suc, ℤ, pos, ◌+◌, ◌-◌, ◌<◌, ◌≤◌, ◌==◌, ◌&&◌, ◌||◌, nat_lt, Bool, true, false, not, cond, IsTrue, List, [], ◌∷◌, length, take, drop, slice_index, slice_range, Some, None, refl, sym, ap, ◌∙◌, arith, subst, length-take}
use Rattle.std.proofs.lemmas.Bool.{and_from, or_parts, ltb-false, eqb-true, not-false, not_from_true, false≢true, cases_lt, cases_eq, cond_both}
use Rattle.std.proofs.lemmas.Bool.Decides.{eqb_tells}
use Rattle.std.proofs.lemmas.List.{drop_more, get_or_past, get_or-take, get_or-drop}
use Rattle.bc_data.specs.Spelling.{number_of, digits_value}
use Rattle.bc_data.specs.Lexical.{is_blank, is_digit, is_letter, is_name_byte, is_plain, is_escape, is_missing, escaped_at, character_at, Whole, Quote, Missing, Wrong, IsTextFrom, more, closed, unclosed, wrong, Start, Blank, LineComment, BlockComment, Digits, Letters, Opening, Other, start_of, start_at, IsRunEnd, IsPieceFrom, IsPiece, Piece, Gap, Lexeme, Broken, Lexing, Tokens, Refused, with_token, token_at, Lexes, finished, gap, token, broken, AreTokensOf}
use Rattle.bc_data.specs.Seen.{between, escaped, meaning, lexeme, seen}
use Rattle.bc_data.specs.declared.token.Token.{Token}
use Rattle.bc_data.specs.declared.token.TokenKind.{TokenKind}
use Rattle.bc_data.specs.declared.token.TokenKind.TheVariants as token_kind
use Rattle.bc_law_readback.specs.Parts.{all_of, is_written_byte}
use Rattle.bc_law_readback.proofs.PartedCovers.{IsKnown, AllKnown}

-- which way a choice went
chosen : {A : Type 0} (b : Bool) (x y z : A) → cond b x y ≡ z → ((b ≡ true) × (x ≡ z)) ⊎ ((b ≡ false) × (y ≡ z))
chosen true x y z h = inl (refl, h)
chosen false x y z h = inr (refl, h)

-- a byte that isn't 0 is within the text
inside : (test : ℕ → Bool) (text : List ℕ) (i : ℕ) → test 0 ≡ false → test (slice_index text i) ≡ true → i < length text
inside test text i never here =
    elim (cases_lt i (length text)) [
      | inl h ↦ h
      | inr h ↦ absurd (false≢true (sym never ∙ ap test (sym (get_or_past text i 0 h)) ∙ here))
    ]

-- Numbers.
number_known : (digits : List ℕ) (n : ℤ) → number_of digits ≡ Some n → (k : ℕ) × (n ≡ pos k) × (k ≤ 2147483647)
unfolding number_of
number_known digits n h =
    let v = digits_value digits in
    let leading = slice_index digits 0 == 48 && nat_lt 1 (length digits) in
    elim (chosen (leading || nat_lt 2147483647 v) None (Some (pos v)) (Some n) h) [
      | inl k ↦ (let never : ⊥ = cc in absurd never)
      | inr k ↦ (let same : pos v ≡ n = cc in (v, sym same, ltb-false 2147483647 v (or_parts leading (nat_lt 2147483647 v) k.0).1))
    ]

-- Names.
letters : (b c : ℕ) → start_of b c ≡ Letters → is_letter b ≡ true
unfolding start_of
letters b c =
    let P : Start → Type 0 = λ s. s ≡ Letters → is_letter b ≡ true in
    cond_both (is_blank b) Blank (cond (b == 47 && c == 47) LineComment (cond (b == 47 && c == 42) BlockComment (cond (is_digit b) Digits (cond (is_letter b) Letters (cond (b == 34) Opening Other))))) P (λ _ e. cc) (λ _.
    cond_both (b == 47 && c == 47) LineComment (cond (b == 47 && c == 42) BlockComment (cond (is_digit b) Digits (cond (is_letter b) Letters (cond (b == 34) Opening Other)))) P (λ _ e. cc) (λ _.
    cond_both (b == 47 && c == 42) BlockComment (cond (is_digit b) Digits (cond (is_letter b) Letters (cond (b == 34) Opening Other))) P (λ _ e. cc) (λ _.
    cond_both (is_digit b) Digits (cond (is_letter b) Letters (cond (b == 34) Opening Other)) P (λ _ e. cc) (λ _.
    cond_both (is_letter b) Letters (cond (b == 34) Opening Other) P (λ h e. h) (λ _.
    cond_both (b == 34) Opening Other P (λ _ e. cc) (λ _ e. cc))))))

all_by_index : (test : ℕ → Bool) (xs : List ℕ) → ((k : ℕ) → k < length xs → test (slice_index xs k) ≡ true) → IsTrue (all_of test xs)
all_by_index test [] h = refl
all_by_index test (x ∷ xs) h = and_from (test x) (all_of test xs) (h 0 (omega arith)) (all_by_index test xs (λ k below. h (suc k) (omega arith)))

slice_at : (text : List ℕ) (i end k : ℕ) → i + k < end → slice_index (slice_range text i end) k ≡ slice_index text (i + k)
slice_at text i end k h = let below : k < end - i = omega arith in get_or-take (end - i) (drop i text) k 0 below ∙ get_or-drop i text k 0

-- a run has only bytes that fit, and at least one where the first fits
run_known : (fits : ℕ → Bool) (text : List ℕ) (i end : ℕ) → IsRunEnd fits text i end → IsTrue (all_of fits (slice_range text i end))
run_known fits text i end run = all_by_index fits (slice_range text i end) (λ k below.
    let short : length (slice_range text i end) ≡ _ = length-take (end - i) (drop i text) in
    let within : i + k < end = omega arith in
    ap fits (slice_at text i end k within) ∙ not-false _ (run.before (i + k) (omega arith) within))

run_grows : (fits : ℕ → Bool) (text : List ℕ) (i end : ℕ) → fits (slice_index text i) ≡ true → i < length text → IsRunEnd fits text i end → i < end
run_grows fits text i end first within run =
    elim (cases_eq i end) [
      | inl e ↦ (let here : not (fits (slice_index text end)) ≡ true = run.here (omega arith) in absurd (false≢true (sym (not_from_true (fits (slice_index text i)) first) ∙ ap (λ k. not (fits (slice_index text k))) e ∙ here)))
      | inr other ↦ (let low : i ≤ end = run.from in omega arith)
    ]

name_known : (text : List ℕ) (i end : ℕ) → start_at text i ≡ Letters → i < length text → IsRunEnd is_name_byte text i end → IsTrue (is_letter (slice_index (slice_range text i end) 0)) × IsTrue (all_of is_name_byte (slice_range text i end))
name_known text i end e within run =
    let first : is_letter (slice_index text i) ≡ true = letters _ _ e in
    let grows : i < end = run_grows is_name_byte text i end (rw first refl) within run in
    let same : slice_index (slice_range text i end) 0 ≡ slice_index text (i + 0) = slice_at text i end 0 (omega arith) in
    let none : i + 0 ≡ i = omega arith in
    (ap is_letter (same ∙ ap (slice_index text) none) ∙ first, run_known is_name_byte text i end run)

-- Texts.
-- a character is a plain byte or an escape
whole_kinds : (text : List ℕ) (i len : ℕ) → character_at text i ≡ Whole len → ((len ≡ 1) × (is_plain (slice_index text i) ≡ true)) ⊎ ((len ≡ 2) × (slice_index text i ≡ 92) × (is_escape (slice_index text (i + 1)) ≡ true))
unfolding character_at
whole_kinds text i len e =
    let b = slice_index text i in
    elim (chosen (is_plain b) (Whole 1) (cond (b == 34) Quote (cond (b == 92) (escaped_at text (i + 1)) (cond (is_missing text i) Missing (Wrong i)))) (Whole len) e) [
      | inl h ↦ (let one : ◌≡◌ {A = ℕ} 1 len = cc in inl (sym one, h.0))
      | inr h ↦ elim (chosen (b == 34) Quote (cond (b == 92) (escaped_at text (i + 1)) (cond (is_missing text i) Missing (Wrong i))) (Whole len) h.1) [
        | inl k ↦ (let never : ⊥ = cc in absurd never)
        | inr k ↦ elim (chosen (b == 92) (escaped_at text (i + 1)) (cond (is_missing text i) Missing (Wrong i)) (Whole len) k.1) [
          | inl m ↦ elim (chosen (is_escape (slice_index text (i + 1))) (Whole 2) (cond (is_missing text (i + 1)) Missing (Wrong (i + 1))) (Whole len) m.1) [
            | inl n ↦ (let two : ◌≡◌ {A = ℕ} 2 len = cc in inr (sym two, eqb-true b 92 m.0, n.0))
            | inr n ↦ elim (chosen (is_missing text (i + 1)) Missing (Wrong (i + 1)) (Whole len) n.1) [ inl o ↦ (let never : ⊥ = cc in absurd never) | inr o ↦ (let never : ⊥ = cc in absurd never) ]
          ]
          | inr m ↦ elim (chosen (is_missing text i) Missing (Wrong i) (Whole len) m.1) [ inl n ↦ (let never : ⊥ = cc in absurd never) | inr n ↦ (let never : ⊥ = cc in absurd never) ]
        ]
      ]
    ]

escape_written : (c : ℕ) → is_escape c ≡ true → is_written_byte (escaped c) ≡ true
escape_written c h =
    let P : ℕ → Type 0 = λ c. is_written_byte (escaped c) ≡ true in
    elim (eqb_tells c 110) [
      | inl (t, e) ↦ subst P (sym e) refl
      | inr (f, n) ↦ elim (eqb_tells c 116) [
        | inl (t, e) ↦ subst P (sym e) refl
        | inr (g, m) ↦ elim (eqb_tells c 34) [
          | inl (t, e) ↦ subst P (sym e) refl
          | inr (i, k) ↦ elim (eqb_tells c 92) [
            | inl (t, e) ↦ subst P (sym e) refl
            | inr (j, o) ↦ absurd (false≢true (rw (f, g, i, j) at h))
          ]
        ]
      ]
    ]

between_more : (text : List ℕ) (i stop : ℕ) → i < stop → i < length text → between text i stop ≡ slice_index text i ∷ between text (i + 1) stop
between_more text i stop h within =
    let one_more : stop - i ≡ suc (stop - (i + 1)) = omega arith in
    ap (λ n. take n (drop i text)) one_more ∙ ap (take (suc (stop - (i + 1)))) (drop_more text i 0 within)

plain_means : (b : ℕ) (bs : List ℕ) → is_plain b ≡ true → IsTrue (all_of is_written_byte (meaning false bs)) → IsTrue (all_of is_written_byte (meaning false (b ∷ bs)))
plain_means b bs h rest =
    elim (eqb_tells b 92) [
      | inl (t, e) ↦ absurd (false≢true (ap is_plain (sym e) ∙ h))
      | inr (f, n) ↦ rw f (and_from (is_written_byte b) (all_of is_written_byte (meaning false bs)) (rw h refl) rest)
    ]

escape_means : (c : ℕ) (bs : List ℕ) → is_escape c ≡ true → IsTrue (all_of is_written_byte (meaning false bs)) → IsTrue (all_of is_written_byte (meaning false (92 ∷ c ∷ bs)))
escape_means c bs h rest = and_from (is_written_byte (escaped c)) (all_of is_written_byte (meaning false bs)) (escape_written c h) rest

-- what stands from an offset up to a closing quote means bytes that can be written
abbrev IsWritten : List ℕ → ℕ → ℕ → Type 0
IsWritten text i end = (i < end) × IsTrue (all_of is_written_byte (meaning false (between text i (end - 1))))

-- the piece that a text literal is, from one of its offsets on
abbrev IsKnownText : List ℕ → ℕ → Piece → Type 0
IsKnownText text i (Lexeme token_kind.Text end) = IsWritten text i end
IsKnownText text i (Broken fault offset) = Unit {0}
IsKnownText text i _ = ⊥

plain_more : (text : List ℕ) (i end : ℕ) → is_plain (slice_index text i) ≡ true → IsWritten text (i + 1) end → IsWritten text i end
plain_more text i end h k =
    let within : i < length text = inside is_plain text i refl h in
    (omega (arith, k.0), rw (between_more text i (end - 1) (omega (arith, k.0)) within) (plain_means (slice_index text i) _ h k.1))

escape_more : (text : List ℕ) (i end : ℕ) → slice_index text i ≡ 92 → is_escape (slice_index text (i + 1)) ≡ true → IsWritten text (i + 2) end → IsWritten text i end
escape_more text i end e h k =
    let first : i < length text = inside (λ b. b == 92) text i refl (ap (λ b. b == 92) e) in
    let second : i + 1 < length text = inside is_escape text (i + 1) refl h in
    let two : i + 2 ≡ i + 1 + 1 = omega arith in
    let rest = subst (λ j. IsTrue (all_of is_written_byte (meaning false (between text j (end - 1))))) two k.1 in
    (omega (arith, k.0), rw (between_more text i (end - 1) (omega (arith, k.0)) first, between_more text (i + 1) (end - 1) (omega (arith, k.0)) second, e) (escape_means (slice_index text (i + 1)) (between text (i + 1 + 1) (end - 1)) h rest))

character_more : (text : List ℕ) (i len end : ℕ) → character_at text i ≡ Whole len → IsWritten text (i + len) end → IsWritten text i end
character_more text i len end e h =
    elim (whole_kinds text i len e) [
      | inl k ↦ plain_more text i end k.1 (subst (λ n. IsWritten text (i + n) end) k.0 h)
      | inr k ↦ escape_more text i end k.1 k.2 (subst (λ n. IsWritten text (i + n) end) k.0 h)
    ]

text_more : (text : List ℕ) (i len : ℕ) (piece : Piece) → character_at text i ≡ Whole len → IsKnownText text (i + len) piece → IsKnownText text i piece
text_more text i len (Lexeme token_kind.Text end) e h = character_more text i len end e h
text_more text i len (Broken fault offset) e h = tt
text_more text i len _ e h = absurd h

text_closed : (text : List ℕ) (i : ℕ) → IsWritten text i (i + 1)
text_closed text i =
    let none : i + 1 - 1 - i ≡ 0 = omega arith in
    (omega arith, subst (λ n. IsTrue (all_of is_written_byte (meaning false (take n (drop i text))))) (sym none) refl)

text_known : (text : List ℕ) (opening : ℕ) {i : ℕ} {piece : Piece} → IsTextFrom text opening i piece → IsKnownText text i piece
text_known text opening (more {i} {len} {piece} e rest) = text_more text i len piece e (text_known text opening rest)
text_known text opening (closed {i} e is) = subst (IsKnownText text i) (sym is) (text_closed text i)
text_known text opening (unclosed {i} e is) = subst (IsKnownText text i) (sym is) tt
text_known text opening (wrong {i} e is) = subst (IsKnownText text i) (sym is) tt

-- Pieces.
abbrev IsKnownPiece : List ℕ → ℕ → Piece → Type 0
IsKnownPiece text i (Lexeme kind end) = IsKnown (lexeme text i end kind)
IsKnownPiece text i _ = Unit {0}

literal_known : (text : List ℕ) (i : ℕ) (piece : Piece) → IsKnownText text (i + 1) piece → IsKnownPiece text i piece
literal_known text i (Lexeme token_kind.Text end) h = h.1
literal_known text i (Broken fault offset) h = tt
literal_known text i _ h = absurd h

piece_known_from : (start : Start) (text : List ℕ) (i : ℕ) (piece : Piece) → start_at text i ≡ start → i < length text → IsPieceFrom start text i piece → IsKnownPiece text i piece
piece_known_from Digits text i (Lexeme (token_kind.Number n) end) e within h = number_known (slice_range text i end) n h.1
piece_known_from Letters text i (Lexeme (token_kind.Keyword word) end) e within h = tt
piece_known_from Letters text i (Lexeme token_kind.Name end) e within h = let name = name_known text i end e within h.0 in (name.0, name.1, h.1)
piece_known_from Opening text i piece e within h = literal_known text i piece (text_known text i h)
piece_known_from Other text i (Lexeme (token_kind.Mark mark) end) e within h = tt
piece_known_from _ text i (Gap end) e within h = tt
piece_known_from _ text i (Broken fault offset) e within h = tt
piece_known_from _ text i piece e within h = absurd h

piece_known : (text : List ℕ) (i : ℕ) (piece : Piece) → IsPiece text i piece → IsKnownPiece text i piece
piece_known text i piece h = piece_known_from (start_at text i) text i piece refl h.0 h.1

abbrev IsKnownLexing : List ℕ → Lexing → Type 0
IsKnownLexing text (Tokens tokens) = AllKnown (seen text tokens)
IsKnownLexing text (Refused fault at) = Unit {0}

with_known : (text : List ℕ) (i end : ℕ) (kind : TokenKind) (rest : Lexing) → IsKnown (lexeme text i end kind) → IsKnownLexing text rest → IsKnownLexing text (with_token (token_at text kind i end) rest)
with_known text i end kind (Tokens tokens) h k = (h, k)
with_known text i end kind (Refused fault at) h k = tt

lexing_known : (text : List ℕ) {i : ℕ} {result : Lexing} → Lexes text i result → IsKnownLexing text result
lexing_known text (finished {i} at_end is) = subst (IsKnownLexing text) (sym is) (tt, tt)
lexing_known text (gap piece rest) = lexing_known text rest
lexing_known text (token {i} kind end {rest} piece behind is) = subst (IsKnownLexing text) (sym is) (with_known text i end kind rest (piece_known text i (Lexeme kind end) piece) (lexing_known text behind))
lexing_known text (broken fault offset piece is) = subst (IsKnownLexing text) (sym is) tt

pub tokens_known : (source : List ℕ) (tokens : List Token) → AreTokensOf source tokens → AllKnown (seen source tokens)
tokens_known source tokens h = lexing_known source h

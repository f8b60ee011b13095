-- Every text has a piece at each offset, and a lexing.
use Rattle.std.proofs.Common.{◌≡◌, ℕ, zero, suc, ◌+◌, ◌-◌, ◌<◌, ◌≤◌, ◌==◌, ◌&&◌, ◌⊎◌, inl, inr, Bool, false, not, nat_eq, List, [], ◌∷◌, length, slice_index, slice_range, refl, sym, ap, ◌∙◌, arith, subst, Option, Some, None, ℤ, zero-le}
use Rattle.std.specs.List.{Contains}
use Rattle.std.specs.Cmp.Lexicographic.{pointwise, same_text, other_text}
use Rattle.std.proofs.lemmas.Bool.{cases_lt, cases_eq, cases_Bool}
use Rattle.bc_data.specs.declared.run.Place.{Place}
use Rattle.bc_data.specs.declared.token.Sign.{Sign}
use Rattle.bc_data.specs.declared.token.Word.{Word}
use Rattle.bc_data.specs.declared.token.TokenKind.TheVariants.{Keyword, Name, Number, Text, Mark, End}
use Rattle.bc_data.specs.declared.token.Token.{Token}
use Rattle.bc_data.specs.Spelling.{sign_text, word_text, number_of}
use Rattle.bc_data.specs.Lexical.{is_digit, is_name_byte, Character, character_at, Whole, Quote, Missing, Wrong, IsTextFrom, more, closed, unclosed, wrong, Start, Blank, LineComment, BlockComment, Digits, Letters, Opening, Other, start_at, IsPieceFrom, IsPiece, Piece, Gap, Lexeme, Broken, BadByte, OpenComment, OpenText, NumberRange, StandsAt, IsMarkAt, IsFirst, IsRunEnd, IsClosing, Lexing, Tokens, Refused, with_token, token_at, place_at, Lexes, finished, gap, token, broken, AreTokensOf, HasTokenFault, TokenFault}
use Rattle.bc_lex.specs.declared.spelling.TheConstants.{WORDS, LONG_MARKS, SHORT_MARKS}
use Rattle.bc_lex.proofs.Marks.{NoWordOf, NoMarkOf, no_word, no_mark, long_mark, short_mark}
use Rattle.bc_lex.proofs.Bytes.{whole_inside}
use Rattle.bc_lex.proofs.Inside.{line_inside, block_inside, piece_inside}

first_step : (test : ℕ → Bool) (i n j : ℕ) → test i ≡ false → i < n → IsFirst test (i + 1) n j → IsFirst test i n j
first_step test i n j no_test within f = record {
  from = (let low : i + 1 ≤ j = f.from in omega arith);
  to = f.to;
  before = λ k low high. elim (cases_eq k i) [ inl e ↦ ap test e ∙ no_test | inr other ↦ f.before k (omega (arith, other)) high ];
  here = f.here;
}

pub first_exists : (test : ℕ → Bool) (left i n : ℕ) → i + left ≡ n → (j : ℕ) × IsFirst test i n j
first_exists test zero i n e = (n, record { from = omega arith; to = omega arith; before = λ k low high. absurd (omega arith); here = λ h. absurd (omega arith) })
first_exists test (suc left) i n e =
    let next = first_exists test left (i + 1) n (omega arith) in
    elim (cases_Bool (test i)) [
      | inl h ↦ (i, record { from = omega arith; to = omega arith; before = λ k low high. absurd (omega arith); here = λ _. h })
      | inr h ↦ (next.0, first_step test i n next.0 h (omega arith) next.1)
    ]

no_word_more : (bytes : List ℕ) (w : Word) (ws : List Word) → (bytes ≡ word_text w → ⊥) → NoWordOf bytes ws → NoWordOf bytes (w ∷ ws)
no_word_more bytes w ws here rest zero d h e = here e
no_word_more bytes w ws here rest (suc k) d h e = rest k d (omega arith) e

-- the keyword that the bytes spell, or none of the list
spelled_or_none : (bytes : List ℕ) (ws : List Word) → ((w : Word) × (bytes ≡ word_text w)) ⊎ NoWordOf bytes ws
spelled_or_none bytes [] = inr (λ k d h e. absurd (omega arith))
spelled_or_none bytes (w ∷ ws) =
    elim (cases_Bool (pointwise nat_eq bytes (word_text w))) [
      | inl h ↦ inl (w, same_text bytes (word_text w) (sym h))
      | inr h ↦ elim (spelled_or_none bytes ws) [
        | inl found ↦ inl found
        | inr none ↦ inr (no_word_more bytes w ws (other_text bytes (word_text w) (sym h)) none)
      ]
    ]

word_or_none : (bytes : List ℕ) → ((w : Word) × (bytes ≡ word_text w)) ⊎ ((w : Word) → bytes ≡ word_text w → ⊥)
word_or_none bytes = elim (spelled_or_none bytes WORDS) [ inl found ↦ inl found | inr none ↦ inr (no_word None bytes none) ]

no_mark_more : (text : List ℕ) (i : ℕ) (m : Sign) (ms : List Sign) → (StandsAt text i (sign_text m) → ⊥) → NoMarkOf text i ms → NoMarkOf text i (m ∷ ms)
no_mark_more text i m ms here rest zero d h e = here e
no_mark_more text i m ms here rest (suc k) d h e = rest k d (omega arith) e

contains_more : (m : Sign) (ms : List Sign) (s : Sign) → Contains ms s → Contains (m ∷ ms) s
contains_more m ms s at = let within : at.0 < length ms = at.1 in (suc at.0, omega arith, at.2)

-- a mark of the list at the offset, or none
standing_or_none : (text : List ℕ) (i : ℕ) (ms : List Sign) → ((m : Sign) × Contains ms m × StandsAt text i (sign_text m)) ⊎ NoMarkOf text i ms
standing_or_none text i [] = inr (λ k d h e. absurd (omega arith))
standing_or_none text i (m ∷ ms) =
    let bytes : List ℕ = slice_range text i (i + length (sign_text m)) in
    elim (cases_Bool (pointwise nat_eq bytes (sign_text m))) [
      | inl h ↦ inl (m, (0, omega arith, refl), same_text bytes (sign_text m) (sym h))
      | inr h ↦ elim (standing_or_none text i ms) [
        | inl found ↦ inl (found.0, contains_more m ms found.0 found.1, found.2)
        | inr none ↦ inr (no_mark_more text i m ms (other_text bytes (sign_text m) (sym h)) none)
      ]
    ]

mark_or_none : (text : List ℕ) (i : ℕ) → ((m : Sign) × IsMarkAt text i m) ⊎ ((m : Sign) → StandsAt text i (sign_text m) → ⊥)
mark_or_none text i =
    elim (standing_or_none text i LONG_MARKS) [
      | inl found ↦ inl (found.0, long_mark text i found.0 found.1 found.2)
      | inr long ↦ elim (standing_or_none text i SHORT_MARKS) [
        | inl found ↦ inl (found.0, short_mark text i found.0 long found.2)
        | inr short ↦ inr (no_mark None text i long short)
      ]
    ]

number_piece : (text : List ℕ) (i end : ℕ) → IsRunEnd is_digit text i end → (o : Option ℤ) → number_of (slice_range text i end) ≡ o → (p : Piece) × IsPieceFrom Digits text i p
number_piece text i end run None e = (Broken NumberRange i, (end, run, e, refl))
number_piece text i end run (Some n) e = (Lexeme (Number n) end, (run, e))

name_piece : (text : List ℕ) (i end : ℕ) → IsRunEnd is_name_byte text i end → (p : Piece) × IsPieceFrom Letters text i p
name_piece text i end run = elim (word_or_none (slice_range text i end)) [ inl found ↦ (Lexeme (Keyword found.0) end, (run, found.1)) | inr none ↦ (Lexeme Name end, (run, none)) ]

block_piece : (text : List ℕ) (i close : ℕ) → IsClosing text (i + 2) close → (p : Piece) × IsPieceFrom BlockComment text i p
block_piece text i close h =
    elim (cases_lt close (length text)) [
      | inl within ↦ (Gap (close + 2), (close, h, within, refl))
      | inr behind ↦ (Broken OpenComment i, (let top : close ≤ length text = h.to in let same : close ≡ length text = omega arith in (subst (λ c. IsClosing text (i + 2) c) same h, refl)))
    ]

mark_piece : (text : List ℕ) (i : ℕ) → (p : Piece) × IsPieceFrom Other text i p
mark_piece text i = elim (mark_or_none text i) [ inl found ↦ (Lexeme (Mark found.0) (i + length (sign_text found.0)), (found.1, refl)) | inr none ↦ (Broken BadByte i, (none, refl)) ]

text_step : (text : List ℕ) (opening i : ℕ) → ((len : ℕ) → 0 < len → i + len ≤ length text → (p : Piece) × IsTextFrom text opening (i + len) p) → (c : Character) → character_at text i ≡ c → (p : Piece) × IsTextFrom text opening i p
text_step text opening i behind (Whole len) e =
    let within : (0 < len) × (i + len ≤ length text) = whole_inside text i len e in
    let rest = behind len within.0 within.1 in
    (rest.0, more e rest.1)
text_step text opening i behind Quote e = (Lexeme Text (i + 1), closed e refl)
text_step text opening i behind Missing e = (Broken OpenText opening, unclosed e refl)
text_step text opening i behind (Wrong offset) e = (Broken BadByte offset, wrong e refl)

text_exists : (text : List ℕ) (opening left i : ℕ) → i ≤ length text → length text < i + left → (p : Piece) × IsTextFrom text opening i p
text_exists text opening zero i high enough = absurd (omega arith)
text_exists text opening (suc left) i high enough = text_step text opening i (λ len some within. text_exists text opening left (i + len) within (omega arith)) (character_at text i) refl

exists_from : (start : Start) (text : List ℕ) (i : ℕ) → start_at text i ≡ start → i < length text → (p : Piece) × IsPieceFrom start text i p
exists_from Blank text i e within = (Gap (i + 1), refl)
exists_from LineComment text i e within =
    let two : i + 2 ≤ length text = line_inside text i e in
    let end = first_exists (λ k. slice_index text k == 10) (length text - (i + 2)) (i + 2) (length text) (omega arith) in
    (Gap end.0, end.1)
exists_from BlockComment text i e within =
    let two : i + 2 ≤ length text = block_inside text i e in
    let close = first_exists (λ k. slice_index text k == 42 && slice_index text (k + 1) == 47) (length text - (i + 2)) (i + 2) (length text) (omega arith) in
    block_piece text i close.0 close.1
exists_from Digits text i e within =
    let end = first_exists (λ k. not (is_digit (slice_index text k))) (length text - i) i (length text) (omega arith) in
    number_piece text i end.0 end.1 (number_of (slice_range text i end.0)) refl
exists_from Letters text i e within =
    let end = first_exists (λ k. not (is_name_byte (slice_index text k))) (length text - i) i (length text) (omega arith) in
    name_piece text i end.0 end.1
exists_from Opening text i e within = text_exists text i (length text) (i + 1) (omega arith) (omega arith)
exists_from Other text i e within = mark_piece text i

pub piece_exists : (text : List ℕ) (i : ℕ) → i < length text → (p : Piece) × IsPiece text i p
piece_exists text i within = let found = exists_from (start_at text i) text i refl within in (found.0, (within, found.1))

lexing_step : (text : List ℕ) (i : ℕ) → ((end : ℕ) → i < end → end ≤ length text → (r : Lexing) × Lexes text end r) → (p : Piece) → IsPiece text i p → (r : Lexing) × Lexes text i r
lexing_step text i behind (Gap end) h =
    let within : (i < end) × (end ≤ length text) = piece_inside text i (Gap end) h in
    let rest = behind end within.0 within.1 in
    (rest.0, gap h rest.1)
lexing_step text i behind (Lexeme kind end) h =
    let within : (i < end) × (end ≤ length text) = piece_inside text i (Lexeme kind end) h in
    let rest = behind end within.0 within.1 in
    (with_token (token_at text kind i end) rest.0, token kind end h rest.1 refl)
lexing_step text i behind (Broken fault offset) h = (Refused fault (place_at text offset), broken fault offset h refl)

lexing_end : (text : List ℕ) (i : ℕ) → i ≡ length text → (r : Lexing) × Lexes text i r
lexing_end text i e = (Tokens (token_at text End i i ∷ []), finished e refl)

lexing_exists : (text : List ℕ) (left i : ℕ) → i ≤ length text → length text ≤ i + left → (r : Lexing) × Lexes text i r
lexing_exists text zero i high enough = lexing_end text i (omega arith)
lexing_exists text (suc left) i high enough =
    elim (cases_lt i (length text)) [
      | inl within ↦ (let found = piece_exists text i within in lexing_step text i (λ end low top. lexing_exists text left end top (omega arith)) found.0 found.1)
      | inr behind ↦ lexing_end text i (omega arith)
    ]

either : (text : List ℕ) (r : Lexing) → Lexes text 0 r → ((tokens : List Token) × AreTokensOf text tokens) ⊎ ((fault : TokenFault) × (at : Place) × HasTokenFault text fault at)
either text (Tokens tokens) h = inl (tokens, h)
either text (Refused fault at) h = inr (fault, at, h)

pub tokens_or_fault : (text : List ℕ) → ((tokens : List Token) × AreTokensOf text tokens) ⊎ ((fault : TokenFault) × (at : Place) × HasTokenFault text fault at)
tokens_or_fault text = let found = lexing_exists text (length text) 0 zero-le (omega arith) in either text found.0 found.1

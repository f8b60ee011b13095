-- Where a token ends.
use Rattle.std.proofs.Common.{◌≡◌, ℕ, ◌==◌, ◌||◌, not, Bool, true, false, IsTrue, List, [], ◌∷◌, ◌++◌, slice_index, refl, sym}
use Rattle.std.proofs.lemmas.Bool.{not-true, or_left, false≢true, not_from_false}
use Rattle.bc_data.specs.Lexical.{is_digit, is_letter, is_name_byte}
use Rattle.bc_data.specs.Seen.{Lexeme, Keyword, Name, Number, Text, Mark, End}
use Rattle.bc_data.specs.Spelling.{word_text, sign_text}
use Rattle.bc_data.specs.declared.token.Word.{Word}
use Rattle.bc_data.specs.declared.token.Word.TheVariants as word
use Rattle.bc_data.specs.declared.token.Sign.{Sign}
use Rattle.bc_data.specs.declared.token.Sign.TheVariants as sign
use Rattle.bc_law_readback.specs.Parts.{Part, Token, Space, LineFeed, lexeme_text, written, tokens_of, IsSpellable, AllSpellable, AreApart, is_word_like, is_open_mark, begins_equal, may_touch}
use Rattle.bc_law_readback.proofs.LexingStarts.{not_equal}
use Rattle.bc_law_readback.proofs.LexingNumbers.{number_first}

-- Whether a token ends before a byte, which is 0 at the end of the text.
abbrev pub ends_before : Lexeme → ℕ → Bool
ends_before (Mark sign.Bang) b = not (b == 61)
ends_before (Mark s) b = not (is_open_mark s) || (b == 0 || b == 10 || b == 32)
ends_before (Text meaning) b = true
ends_before x b = not (is_name_byte b)

-- the first byte of a token that is followed by these bytes
abbrev pub first_of : Lexeme → List ℕ → ℕ
first_of x after = slice_index (lexeme_text x ++ after) 0

pub word_letter : (w : Word) (after : List ℕ) → is_letter (slice_index (word_text w ++ after) 0) ≡ true
word_letter word.Add after = refl
word_letter _ after = refl

pub name_letter : (spelling after : List ℕ) → IsTrue (is_letter (slice_index spelling 0)) → is_letter (slice_index (spelling ++ after) 0) ≡ true
name_letter [] after h = absurd (false≢true h)
name_letter (b ∷ bs) after h = h

letter_name : (b : ℕ) → is_letter b ≡ true → is_name_byte b ≡ true
letter_name b h = or_left (is_letter b) (is_digit b) h

-- marks aren't like words, and begin with `=` where they say so
sign_first : (s : Sign) (after : List ℕ) → is_name_byte (slice_index (sign_text s ++ after) 0) ≡ false
sign_first sign.Dot after = refl
sign_first _ after = refl

sign_equal : (s : Sign) (after : List ℕ) → begins_equal (Mark s) ≡ false → (slice_index (sign_text s ++ after) 0 == 61) ≡ false
sign_equal sign.Equals after h = h
sign_equal sign.Same after h = h
sign_equal _ after h = refl

-- what isn't like a word doesn't begin with the byte of a name
plain_first : (y : Lexeme) (after : List ℕ) → is_word_like y ≡ false → IsSpellable y → is_name_byte (first_of y after) ≡ false
plain_first (Text meaning) after h s = refl
plain_first (Mark m) after h s = sign_first m after
plain_first End after h s = absurd s
plain_first _ after h s = absurd (false≢true (sym h))

equal_first : (y : Lexeme) (after : List ℕ) → begins_equal y ≡ false → IsSpellable y → (first_of y after == 61) ≡ false
equal_first (Keyword w) after h s = not_equal (first_of (Keyword w) after) (letter_name (first_of (Keyword w) after) (word_letter w after))
equal_first (Name spelling) after h s = not_equal (first_of (Name spelling) after) (letter_name (first_of (Name spelling) after) (name_letter spelling after s.0))
equal_first (Number n) after h s = not_equal (first_of (Number n) after) (number_first n after s)
equal_first (Text meaning) after h s = refl
equal_first (Mark m) after h s = sign_equal m after h
equal_first End after h s = absurd s

-- a word ends before what isn't like a word
word_ends : (y : Lexeme) (after : List ℕ) → not (is_word_like y) ≡ true → IsSpellable y → not (is_name_byte (first_of y after)) ≡ true
word_ends y after h s = not_from_false (is_name_byte (first_of y after)) (plain_first y after (not-true (is_word_like y) h) s)

bang_ends : (y : Lexeme) (after : List ℕ) → not (begins_equal y) ≡ true → IsSpellable y → not (first_of y after == 61) ≡ true
bang_ends y after h s = not_from_false (first_of y after == 61) (equal_first y after (not-true (begins_equal y) h) s)

mark_ends : (m : Sign) (y : Lexeme) (after : List ℕ) → IsTrue (may_touch (Mark m) y) → IsSpellable y → ends_before (Mark m) (first_of y after) ≡ true
mark_ends sign.Bang y after h s = bang_ends y after h s
mark_ends sign.Colon y after h s = absurd (false≢true h)
mark_ends sign.Equals y after h s = absurd (false≢true h)
mark_ends sign.Less y after h s = absurd (false≢true h)
mark_ends sign.More y after h s = absurd (false≢true h)
mark_ends sign.Slash y after h s = absurd (false≢true h)
mark_ends _ y after h s = refl

-- a token ends before a token that may touch it
touching : (x y : Lexeme) (after : List ℕ) → IsTrue (may_touch x y) → IsSpellable y → ends_before x (first_of y after) ≡ true
touching (Keyword w) y after h s = word_ends y after h s
touching (Name spelling) y after h s = word_ends y after h s
touching (Number n) y after h s = word_ends y after h s
touching (Text meaning) y after h s = refl
touching (Mark m) y after h s = mark_ends m y after h s
touching End y after h s = word_ends y after h s

-- every token ends before a space, a line feed and the end
mark_gap : (m : Sign) → (ends_before (Mark m) 0 ≡ true) × (ends_before (Mark m) 10 ≡ true) × (ends_before (Mark m) 32 ≡ true)
mark_gap sign.Bang = (refl, refl, refl)
mark_gap _ = (refl, refl, refl)

gap_ends : (x : Lexeme) → (ends_before x 0 ≡ true) × (ends_before x 10 ≡ true) × (ends_before x 32 ≡ true)
gap_ends (Mark m) = mark_gap m
gap_ends _ = (refl, refl, refl)

-- a token among parts that stand apart ends before the next part
pub ends_here : (x : Lexeme) (ps : List Part) → AreApart (Token x ∷ ps) → AllSpellable (tokens_of ps) → ends_before x (slice_index (written ps) 0) ≡ true
ends_here x [] apart all = (gap_ends x).0
ends_here x (Space ∷ ps) apart all = (gap_ends x).2
ends_here x (LineFeed ∷ ps) apart all = (gap_ends x).1
ends_here x (Token y ∷ ps) apart all = touching x y (written ps) apart.0 all.0

-- The tokens of a text, and the fault of a text that has none.
--
-- A text is cut into pieces, one behind another: white space, comments and tokens. What begins at an offset says by
-- which rule its piece ends. The first piece that can't be cut is the text's fault.
use Rattle.std.specs.Prelude.{◌≡◌, ℕ, ◌+◌, ◌<◌, ◌≤◌, Bool, true, false, not, ◌&&◌, ◌||◌, ◌==◌, nat_le, List, [], ◌∷◌, length, take, slice_index, slice_range, Some, None, if◌then◌else◌}
use Rattle.std.specs.List.{fold}
use Rattle.bc_data.specs.declared.run.Place.{Place}
use Rattle.bc_data.specs.declared.token.Word.{Word}
use Rattle.bc_data.specs.declared.token.Sign.{Sign}
use Rattle.bc_data.specs.declared.token.TokenKind.{TokenKind}
use Rattle.bc_data.specs.declared.token.TokenKind.TheVariants.{Keyword, Name, Number, Text, Mark, End}
use Rattle.bc_data.specs.declared.token.Token.{Token}
use Rattle.bc_data.specs.Spelling.{word_text, sign_text, number_of}

-- tab, line feed, carriage return and space
abbrev pub is_blank : ℕ → Bool
is_blank b = b == 9 || b == 10 || b == 13 || b == 32

abbrev pub is_digit : ℕ → Bool
is_digit b = nat_le 48 b && nat_le b 57

-- `A` to `Z`, `a` to `z` and `_`
abbrev pub is_letter : ℕ → Bool
is_letter b = (nat_le 65 b && nat_le b 90) || (nat_le 97 b && nat_le b 122) || b == 95

abbrev pub is_name_byte : ℕ → Bool
is_name_byte b = is_letter b || is_digit b

-- a byte that stands for itself in a text literal: 32 to 126, but `"` and `\`
abbrev pub is_plain : ℕ → Bool
is_plain b = nat_le 32 b && nat_le b 126 && not (b == 34) && not (b == 92)

-- what may follow a `\`: `n`, `t`, `"` and `\`
abbrev pub is_escape : ℕ → Bool
is_escape b = b == 110 || b == 116 || b == 34 || b == 92

-- Places. A line feed leads to the next line, every other byte to the next column.
abbrev pub after_byte : Place → ℕ → Place
after_byte at b = if b == 10 then record { line = at.line + 1; column = 1 } else record { line = at.line; column = at.column + 1 }

-- the place behind bytes that begin at a place
abbrev pub place_behind : Place → List ℕ → Place
place_behind at bytes = fold after_byte at bytes

-- the place of an offset
abbrev pub place_at : List ℕ → ℕ → Place
place_at text offset = place_behind (record { line = 1; column = 1 }) (take offset text)

-- the first offset from i on, below n, where the test holds; n if there is none
pub record IsFirst (test : ℕ → Bool) (i n first : ℕ) : Type 0 where
  pub from : i ≤ first
  pub to : first ≤ n
  pub before : (k : ℕ) → i ≤ k → k < first → test k ≡ false
  pub here : first < n → test first ≡ true

-- the bytes from i on that fit end here
abbrev pub IsRunEnd : (ℕ → Bool) → List ℕ → ℕ → ℕ → Type 0
IsRunEnd fits text i end = IsFirst (λ k. not (fits (slice_index text k))) i (length text) end

-- a line feed, or the end of the text if none follows
abbrev pub IsLineEnd : List ℕ → ℕ → ℕ → Type 0
IsLineEnd text i end = IsFirst (λ k. slice_index text k == 10) i (length text) end

-- the first `*/`, or the end of the text if none follows
abbrev pub IsClosing : List ℕ → ℕ → ℕ → Type 0
IsClosing text i close = IsFirst (λ k. slice_index text k == 42 && slice_index text (k + 1) == 47) i (length text) close

-- the text has these bytes at the offset
abbrev pub StandsAt : List ℕ → ℕ → List ℕ → Type 0
StandsAt text i bytes = slice_range text i (i + length bytes) ≡ bytes

-- the longest mark at the offset
pub record IsMarkAt (text : List ℕ) (i : ℕ) (mark : Sign) : Type 0 where
  pub stands : StandsAt text i (sign_text mark)
  pub longest : (other : Sign) → StandsAt text i (sign_text other) → length (sign_text other) ≤ length (sign_text mark)

pub data TokenFault : Type 0 where
  BadByte : TokenFault
  OpenComment : TokenFault
  OpenText : TokenFault
  NumberRange : TokenFault

-- white space or a comment up to an offset, a token up to an offset, or a fault at an offset
pub data Piece : Type 0 where
  Gap : (end : ℕ) → Piece
  Lexeme : (kind : TokenKind) (end : ℕ) → Piece
  Broken : (fault : TokenFault) (offset : ℕ) → Piece

-- what stands at an offset of a text literal: one byte or an escape of two, the closing quote, a line feed or the end
-- before it, or a byte that isn't allowed, with its offset
pub data Character : Type 0 where
  Whole : (len : ℕ) → Character
  Quote : Character
  Missing : Character
  Wrong : (offset : ℕ) → Character

abbrev pub is_missing : List ℕ → ℕ → Bool
is_missing text i = nat_le (length text) i || slice_index text i == 10

abbrev pub escaped_at : List ℕ → ℕ → Character
escaped_at text i = if is_escape (slice_index text i) then Whole 2 else (if is_missing text i then Missing else Wrong i)

unfoldable pub character_at : List ℕ → ℕ → Character
character_at text i =
    if is_plain (slice_index text i) then Whole 1 else
    (if slice_index text i == 34 then Quote else
    (if slice_index text i == 92 then escaped_at text (i + 1) else
    (if is_missing text i then Missing else Wrong i)))

-- from an offset of a text literal on, the piece that the literal is
pub data IsTextFrom (text : List ℕ) (opening : ℕ) : ℕ → Piece → Type 0 where
  more : {i len : ℕ} {piece : Piece} → character_at text i ≡ Whole len → IsTextFrom text opening (i + len) piece → IsTextFrom text opening i piece
  closed : {i : ℕ} {piece : Piece} → character_at text i ≡ Quote → piece ≡ Lexeme Text (i + 1) → IsTextFrom text opening i piece
  unclosed : {i : ℕ} {piece : Piece} → character_at text i ≡ Missing → piece ≡ Broken OpenText opening → IsTextFrom text opening i piece
  wrong : {i offset : ℕ} {piece : Piece} → character_at text i ≡ Wrong offset → piece ≡ Broken BadByte offset → IsTextFrom text opening i piece

-- what begins at an offset, by its first two bytes
pub data Start : Type 0 where
  Blank : Start
  LineComment : Start
  BlockComment : Start
  Digits : Start
  Letters : Start
  Opening : Start
  Other : Start

unfoldable pub start_of : ℕ → ℕ → Start
start_of b c =
    if is_blank b then Blank else
    (if b == 47 && c == 47 then LineComment else
    (if b == 47 && c == 42 then BlockComment else
    (if is_digit b then Digits else
    (if is_letter b then Letters else
    (if b == 34 then Opening else Other)))))

-- The piece that begins so at an offset.
abbrev pub IsPieceFrom : Start → List ℕ → ℕ → Piece → Type 0
IsPieceFrom Blank text i (Gap end) = end ≡ i + 1
IsPieceFrom LineComment text i (Gap end) = IsLineEnd text (i + 2) end
IsPieceFrom BlockComment text i (Gap end) = (close : ℕ) × IsClosing text (i + 2) close × (close < length text) × (end ≡ close + 2)
IsPieceFrom BlockComment text i (Broken OpenComment at) = IsClosing text (i + 2) (length text) × (at ≡ i)
IsPieceFrom Digits text i (Lexeme (Number n) end) = IsRunEnd is_digit text i end × (number_of (slice_range text i end) ≡ Some n)
IsPieceFrom Digits text i (Broken NumberRange at) = (end : ℕ) × IsRunEnd is_digit text i end × (number_of (slice_range text i end) ≡ None) × (at ≡ i)
IsPieceFrom Letters text i (Lexeme (Keyword word) end) = IsRunEnd is_name_byte text i end × (slice_range text i end ≡ word_text word)
IsPieceFrom Letters text i (Lexeme Name end) = IsRunEnd is_name_byte text i end × ((word : Word) → slice_range text i end ≡ word_text word → ⊥)
IsPieceFrom Opening text i piece = IsTextFrom text i (i + 1) piece
IsPieceFrom Other text i (Lexeme (Mark mark) end) = IsMarkAt text i mark × (end ≡ i + length (sign_text mark))
IsPieceFrom Other text i (Broken BadByte at) = ((mark : Sign) → StandsAt text i (sign_text mark) → ⊥) × (at ≡ i)
IsPieceFrom _ text i piece = ⊥

abbrev pub start_at : List ℕ → ℕ → Start
start_at text i = start_of (slice_index text i) (slice_index text (i + 1))

-- the piece of the text at an offset
abbrev pub IsPiece : List ℕ → ℕ → Piece → Type 0
IsPiece text i piece = (i < length text) × IsPieceFrom (start_at text i) text i piece

-- the tokens of a text from an offset on, or its first fault there
pub data Lexing : Type 0 where
  Tokens : (tokens : List Token) → Lexing
  Refused : (fault : TokenFault) (at : Place) → Lexing

abbrev pub with_token : Token → Lexing → Lexing
with_token token (Tokens tokens) = Tokens (token ∷ tokens)
with_token token (Refused fault at) = Refused fault at

abbrev pub token_at : List ℕ → TokenKind → ℕ → ℕ → Token
token_at text kind i end = record { kind = kind; start = i; end = end; at = place_at text i }

pub data Lexes (text : List ℕ) : ℕ → Lexing → Type 0 where
  finished : {i : ℕ} {result : Lexing} → i ≡ length text → result ≡ Tokens (token_at text End i i ∷ []) → Lexes text i result
  gap : {i end : ℕ} {result : Lexing} → IsPiece text i (Gap end) → Lexes text end result → Lexes text i result
  token : {i : ℕ} (kind : TokenKind) (end : ℕ) {rest result : Lexing} → IsPiece text i (Lexeme kind end) → Lexes text end rest → result ≡ with_token (token_at text kind i end) rest → Lexes text i result
  broken : {i : ℕ} (fault : TokenFault) (offset : ℕ) {result : Lexing} → IsPiece text i (Broken fault offset) → result ≡ Refused fault (place_at text offset) → Lexes text i result

-- The text has these tokens. The last is `End`, at the place behind the last byte.
abbrev pub AreTokensOf : List ℕ → List Token → Type 0
AreTokensOf text tokens = Lexes text 0 (Tokens tokens)

-- The text has no tokens: this is its first fault from the left, at this place.
abbrev pub HasTokenFault : List ℕ → TokenFault → Place → Type 0
HasTokenFault text fault at = Lexes text 0 (Refused fault at)

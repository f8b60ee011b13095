-- Each token that can be spelled is the piece of its text, where it ends before the byte behind.
use Rattle.std.proofs.Common.{◌≡◌, ℕ, ◌+◌, ◌-◌, ◌<◌, ◌≤◌, true, false, IsTrue, List, [], ◌∷◌, ◌++◌, length, slice_index, slice_range, ℤ, pos, refl, ap, sym, ◌∙◌, subst, arith, append_assoc, length-append, lit≤}
use Rattle.std.specs.Fmt.{decimal}
use Rattle.std.proofs.lemmas.Bool.{not-true, or_parts, false≢true}
use Rattle.std.proofs.lemmas.Fmt.{decimal_nonempty}
use Rattle.bc_data.specs.Lexical.{is_digit, is_letter, is_name_byte, IsTextFrom, Start, Blank, Digits, Letters, Opening, Other, start_of, start_at, IsPieceFrom, IsPiece, Piece, Gap}
use Rattle.bc_data.specs.Lexical.{Lexeme as TokenPiece}
use Rattle.bc_data.specs.Seen.{Lexeme, Keyword, Name, Number, Text, Mark, End, lexeme, between, meaning}
use Rattle.bc_data.specs.Spelling.{word_text, sign_text, number_of}
use Rattle.bc_data.specs.declared.token.Word.{Word}
use Rattle.bc_data.specs.declared.token.Word.TheVariants as word
use Rattle.bc_data.specs.declared.token.Sign.{Sign}
use Rattle.bc_data.specs.declared.token.TokenKind.{TokenKind}
use Rattle.bc_data.specs.declared.token.TokenKind.TheVariants as token_kind
use Rattle.bc_print.specs.Canonical.{literal_bytes, literal_text}
use Rattle.bc_print.proofs.Literals.{same_meaning}
use Rattle.bc_law_readback.specs.Parts.{lexeme_text, IsSpellable, all_of, is_written_byte}
use Rattle.bc_law_readback.proofs.LexingBytes.{byte_behind, byte_first, range_here, run_here, end_within, all_at}
use Rattle.bc_law_readback.proofs.LexingStarts.{digits_start, letters_start}
use Rattle.bc_law_readback.proofs.LexingNumbers.{decimal_writes, number_back, front_first}
use Rattle.bc_law_readback.proofs.LexingMarks.{some_bytes, mark_here, mark_start}
use Rattle.bc_law_readback.proofs.LexingTexts.{literal_from}
use Rattle.bc_law_readback.proofs.LexingTouch.{ends_before, word_letter, name_letter}

-- The piece that begins behind some bytes and has this text.
abbrev pub IsPieceOf : List ℕ → List ℕ → List ℕ → TokenKind → Type 0
IsPieceOf before here after kind = IsPiece (before ++ (here ++ after)) (length before) (TokenPiece kind (length before + length here))

-- a token of some kind that is seen as this lexeme
abbrev pub IsSeenAs : List ℕ → List ℕ → Lexeme → Type 0
IsSeenAs before after x =
    (kind : TokenKind) × IsPieceOf before (lexeme_text x) after kind
    × (lexeme (before ++ (lexeme_text x ++ after)) (length before) (length before + length (lexeme_text x)) kind ≡ x)

start_behind : (before rest : List ℕ) → start_at (before ++ rest) (length before) ≡ start_of (slice_index rest 0) (slice_index rest 1)
start_behind before rest = rw (byte_first before rest, byte_behind before rest 1) refl

-- what begins so at an offset
begun : (before here after : List ℕ) (start : Start) (piece : Piece) → 1 ≤ length here → start_of (slice_index (here ++ after) 0) (slice_index (here ++ after) 1) ≡ start → IsPieceFrom start (before ++ (here ++ after)) (length before) piece → IsPiece (before ++ (here ++ after)) (length before) piece
begun before here after start piece some e from =
    let within = end_within before here after in
    (omega arith, subst (λ s. IsPieceFrom s (before ++ (here ++ after)) (length before) piece) (sym (start_behind before (here ++ after) ∙ e)) from)

word_bytes : (w : Word) → (1 ≤ length (word_text w)) × IsTrue (all_of is_name_byte (word_text w))
word_bytes word.Add = (lit≤ tt, refl)
word_bytes _ = (lit≤ tt, refl)

keyword_seen : (w : Word) (before after : List ℕ) → is_name_byte (slice_index after 0) ≡ false → IsSeenAs before after (Keyword w)
keyword_seen w before after stops =
    let bytes = word_bytes w in (
      token_kind.Keyword w,
      begun before (word_text w) after Letters (TokenPiece (token_kind.Keyword w) (length before + length (word_text w))) bytes.0
          (letters_start (slice_index (word_text w ++ after) 0) (slice_index (word_text w ++ after) 1) (word_letter w after))
          (run_here is_name_byte before (word_text w) after bytes.1 stops, range_here before (word_text w) after),
      refl,
    )

some_letters : (spelling : List ℕ) → IsTrue (is_letter (slice_index spelling 0)) → 1 ≤ length spelling
some_letters [] h = absurd (false≢true h)
some_letters (b ∷ bs) h = omega arith

name_seen : (spelling before after : List ℕ) → IsSpellable (Name spelling) → is_name_byte (slice_index after 0) ≡ false → IsSeenAs before after (Name spelling)
name_seen spelling before after (first, all, none) stops =
    let range = range_here before spelling after in (
      token_kind.Name,
      begun before spelling after Letters (TokenPiece token_kind.Name (length before + length spelling)) (some_letters spelling first)
          (letters_start (slice_index (spelling ++ after) 0) (slice_index (spelling ++ after) 1) (name_letter spelling after first))
          (run_here is_name_byte before spelling after all stops, λ w e. none w (sym range ∙ e)),
      ap Name range,
    )

number_seen : (k : ℕ) (before after : List ℕ) → k ≤ 2147483647 → is_digit (slice_index after 0) ≡ false → IsSeenAs before after (Number (pos k))
number_seen k before after high stops =
    let digits : List ℕ = decimal k in
    let some : 0 < length digits = decimal_nonempty k (omega arith) in
    let writes = decimal_writes k high in
    let first : is_digit (slice_index (digits ++ after) 0) ≡ true = ap is_digit (front_first digits after some) ∙ all_at is_digit digits 0 some writes.0 in (
      token_kind.Number (pos k),
      begun before digits after Digits (TokenPiece (token_kind.Number (pos k)) (length before + length digits)) (omega arith)
          (digits_start (slice_index (digits ++ after) 0) (slice_index (digits ++ after) 1) first)
          (run_here is_digit before digits after writes.0 stops, ap number_of (range_here before digits after) ∙ number_back k high),
      refl,
    )

integer_seen : (n : ℤ) (before after : List ℕ) → IsSpellable (Number n) → is_digit (slice_index after 0) ≡ false → IsSeenAs before after (Number n)
integer_seen n before after (k, e, high) stops = subst (λ m. IsSeenAs before after (Number m)) (sym e) (number_seen k before after high stops)

mark_seen : (s : Sign) (before after : List ℕ) → ends_before (Mark s) (slice_index after 0) ≡ true → IsSeenAs before after (Mark s)
mark_seen s before after ends = (
  token_kind.Mark s,
  begun before (sign_text s) after Other (TokenPiece (token_kind.Mark s) (length before + length (sign_text s))) (some_bytes s) (mark_start s after ends) (mark_here s before after ends, refl),
  refl,
)

-- a literal behind its opening quote
opened : (bytes before after : List ℕ) → (before ++ 34 ∷ []) ++ (literal_bytes bytes ++ 34 ∷ after) ≡ before ++ (literal_text bytes ++ after)
opened bytes before after = append_assoc before (34 ∷ []) (literal_bytes bytes ++ 34 ∷ after) ∙ ap (λ t. before ++ 34 ∷ t) (sym (append_assoc (literal_bytes bytes) (34 ∷ []) after))

text_seen : (bytes before after : List ℕ) → IsTrue (all_of is_written_byte bytes) → IsSeenAs before after (Text bytes)
unfolding start_of
text_seen bytes before after all =
    let inner : List ℕ = before ++ 34 ∷ [] in
    let text : List ℕ = before ++ (literal_text bytes ++ after) in
    let one : length inner ≡ length before + 1 = length-append before (34 ∷ []) in
    let stop : length before + length (literal_text bytes) ≡ length inner + length (literal_bytes bytes) + 1 = omega (arith, length-append before (34 ∷ []), length-append (literal_bytes bytes) (34 ∷ [])) in
    let piece : Piece = TokenPiece token_kind.Text (length before + length (literal_text bytes)) in
    let from : IsTextFrom (inner ++ (literal_bytes bytes ++ 34 ∷ after)) (length before) (length inner) piece = literal_from (length before) bytes inner after piece all (ap (TokenPiece token_kind.Text) stop) in
    let there : IsTextFrom text (length before) (length inner) piece = subst (λ t. IsTextFrom t (length before) (length inner) piece) (opened bytes before after) from in
    let last : length before + length (literal_text bytes) - 1 ≡ length inner + length (literal_bytes bytes) = omega arith in
    let inside : between text (length before + 1) (length before + length (literal_text bytes) - 1) ≡ literal_bytes bytes =
    ap (λ i. slice_range text i (length before + length (literal_text bytes) - 1)) (sym one) ∙ ap (λ j. slice_range text (length inner) j) last
    ∙ ap (λ t. slice_range t (length inner) (length inner + length (literal_bytes bytes))) (sym (opened bytes before after)) ∙ range_here inner (literal_bytes bytes) (34 ∷ after) in (
      token_kind.Text,
      begun before (literal_text bytes) after Opening piece (omega arith) refl (subst (λ i. IsTextFrom text (length before) i piece) one there),
      ap (λ bs. Text (meaning false bs)) inside ∙ ap Text (same_meaning bytes),
    )

no_digit : (b : ℕ) → is_name_byte b ≡ false → is_digit b ≡ false
no_digit b h = (or_parts (is_letter b) (is_digit b) h).1

-- a token is read as itself where it ends before what follows
pub token_seen : (x : Lexeme) (before after : List ℕ) → IsSpellable x → ends_before x (slice_index after 0) ≡ true → IsSeenAs before after x
token_seen (Keyword w) before after s ends = keyword_seen w before after (not-true (is_name_byte (slice_index after 0)) ends)
token_seen (Name spelling) before after s ends = name_seen spelling before after s (not-true (is_name_byte (slice_index after 0)) ends)
token_seen (Number n) before after s ends = integer_seen n before after s (no_digit (slice_index after 0) (not-true (is_name_byte (slice_index after 0)) ends))
token_seen (Text bytes) before after s ends = text_seen bytes before after s
token_seen (Mark m) before after s ends = mark_seen m before after ends
token_seen End before after s ends = absurd s

-- a space and a line feed are gaps
pub space_gap : (before after : List ℕ) → IsPiece (before ++ 32 ∷ after) (length before) (Gap (length before + 1))
unfolding start_of
space_gap before after = begun before (32 ∷ []) after Blank (Gap (length before + 1)) (lit≤ tt) refl refl

pub feed_gap : (before after : List ℕ) → IsPiece (before ++ 10 ∷ after) (length before) (Gap (length before + 1))
unfolding start_of
feed_gap before after = begun before (10 ∷ []) after Blank (Gap (length before + 1)) (lit≤ tt) refl refl

-- A text is read from its literal.
use Rattle.std.proofs.Common.{◌≡◌, ℕ, ◌+◌, ◌==◌, ◌&&◌, ◌||◌, inl, inr, not, nat_le, true, IsTrue, List, [], ◌∷◌, ◌++◌, length, refl, ap, sym, ◌∙◌, subst, arith, append_assoc, length-append}
use Rattle.std.proofs.lemmas.Bool.{or_cases, and_parts, eqb-true, leb-true, ne_eqb, not-true}
use Rattle.bc_data.specs.Lexical.{is_plain, is_escape, character_at, Whole, Quote, IsTextFrom, more, closed, Piece, Lexeme}
use Rattle.bc_data.specs.declared.token.TokenKind.TheVariants.{Text}
use Rattle.bc_print.specs.Canonical.{literal_byte, literal_bytes}
use Rattle.bc_law_readback.specs.Parts.{all_of, is_written_byte}
use Rattle.bc_law_readback.proofs.LexingBytes.{byte_behind, byte_first}

plain_whole : (before rest : List ℕ) (b : ℕ) → is_plain b ≡ true → character_at (before ++ b ∷ rest) (length before) ≡ Whole 1
unfolding character_at
plain_whole before rest b h = rw (byte_first before (b ∷ rest), h) refl

escape_whole : (before rest : List ℕ) (c : ℕ) → is_escape c ≡ true → character_at (before ++ 92 ∷ c ∷ rest) (length before) ≡ Whole 2
unfolding character_at
escape_whole before rest c h = rw (byte_first before (92 ∷ c ∷ rest), byte_behind before (92 ∷ c ∷ rest) 1, h) refl

-- a plain byte is written as itself
plain_byte : (b : ℕ) → is_plain b ≡ true → literal_byte b ≡ b ∷ []
plain_byte b h =
    let most = and_parts (nat_le 32 b && nat_le b 126 && not (b == 34)) (not (b == 92)) h in
    let more = and_parts (nat_le 32 b && nat_le b 126) (not (b == 34)) most.0 in
    let low = leb-true 32 b (and_parts (nat_le 32 b) (nat_le b 126) more.0).0 in
    rw (ne_eqb b 10 (λ e. omega arith), ne_eqb b 9 (λ e. omega arith), not-true (b == 34) more.1, not-true (b == 92) most.1) refl

-- a byte as it is written is one whole character
abbrev pub IsCharacter : List ℕ → List ℕ → ℕ → Type 0
IsCharacter before rest b = character_at (before ++ (literal_byte b ++ rest)) (length before) ≡ Whole (length (literal_byte b))

byte_whole : (before rest : List ℕ) (b : ℕ) → IsTrue (is_written_byte b) → IsCharacter before rest b
byte_whole before rest b h =
    elim (or_cases (is_plain b || b == 34 || b == 92 || b == 10) (b == 9) h) [
      | inl g ↦ elim (or_cases (is_plain b || b == 34 || b == 92) (b == 10) g) [
        | inl f ↦ elim (or_cases (is_plain b || b == 34) (b == 92) f) [
          | inl e ↦ elim (or_cases (is_plain b) (b == 34) e) [
            | inl plain ↦ rw (plain_byte b plain) (plain_whole before rest b plain)
            | inr is ↦ subst (λ c. IsCharacter before rest c) (sym (eqb-true b 34 is)) (escape_whole before rest 34 refl)
          ]
          | inr is ↦ subst (λ c. IsCharacter before rest c) (sym (eqb-true b 92 is)) (escape_whole before rest 92 refl)
        ]
        | inr is ↦ subst (λ c. IsCharacter before rest c) (sym (eqb-true b 10 is)) (escape_whole before rest 110 refl)
      ]
      | inr is ↦ subst (λ c. IsCharacter before rest c) (sym (eqb-true b 9 is)) (escape_whole before rest 116 refl)
    ]

quote_here : (before rest : List ℕ) → character_at (before ++ 34 ∷ rest) (length before) ≡ Quote
unfolding character_at
quote_here before rest = rw (byte_first before (34 ∷ rest)) refl

-- from within a literal on
pub literal_from : (opening : ℕ) (bytes before after : List ℕ) (piece : Piece) → IsTrue (all_of is_written_byte bytes) → piece ≡ Lexeme Text (length before + length (literal_bytes bytes) + 1) → IsTextFrom (before ++ (literal_bytes bytes ++ 34 ∷ after)) opening (length before) piece
literal_from opening [] before after piece all e =
    closed (quote_here before after) (e ∙ ap (Lexeme Text) (omega arith))
literal_from opening (b ∷ bs) before after piece all e =
    let both = and_parts (is_written_byte b) (all_of is_written_byte bs) all in
    let here : List ℕ = literal_byte b in
    let rest : List ℕ = literal_bytes bs ++ 34 ∷ after in
    let stop : length before + length (here ++ literal_bytes bs) + 1 ≡ length (before ++ here) + length (literal_bytes bs) + 1 = omega (arith, length-append before here, length-append here (literal_bytes bs)) in
    let next : IsTextFrom ((before ++ here) ++ rest) opening (length (before ++ here)) piece = literal_from opening bs (before ++ here) after piece both.1 (e ∙ ap (Lexeme Text) stop) in
    let there : IsTextFrom (before ++ (here ++ rest)) opening (length (before ++ here)) piece = subst (λ t. IsTextFrom t opening (length (before ++ here)) piece) (append_assoc before here rest) next in
    let onward : IsTextFrom (before ++ (here ++ rest)) opening (length before + length here) piece = subst (λ n. IsTextFrom (before ++ (here ++ rest)) opening n piece) (length-append before here) there in
    subst (λ t. IsTextFrom (before ++ t) opening (length before) piece) (sym (append_assoc here (literal_bytes bs) (34 ∷ after))) (more (byte_whole before rest b both.0) onward)

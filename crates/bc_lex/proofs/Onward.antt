-- Tokens before a lexing, and places further on.
use Rattle.std.proofs.Common.{◌≡◌, ℕ, ◌+◌, ◌-◌, ◌≤◌, List, [], ◌∷◌, ◌++◌, length, take, drop, slice_range, refl, sym, ap, ◌∙◌, arith, subst}
use Rattle.std.specs.List.{fold}
use Rattle.std.proofs.lemmas.List.Sums.{fold-append}
use Rattle.std.proofs.Math.Seq.{take-add}
use Rattle.bc_data.specs.declared.run.Place.{Place}
use Rattle.bc_data.specs.declared.token.Token.{Token}
use Rattle.bc_data.specs.declared.token.TokenKind.{TokenKind}
use Rattle.bc_data.specs.declared.token.TokenKind.TheVariants.{End}
use Rattle.bc_data.specs.Lexical.{after_byte, place_behind, place_at, Lexing, Tokens, Refused, with_token, token_at, Lexes, finished, gap, token, broken, IsPiece, Gap, Lexeme, Broken, TokenFault}

abbrev pub front : List Token → Lexing → Lexing
front [] result = result
front (t ∷ ts) result = with_token t (front ts result)

front_tokens : (ts rest : List Token) → front ts (Tokens rest) ≡ Tokens (ts ++ rest)
front_tokens [] rest = refl
front_tokens (t ∷ ts) rest = ap (with_token t) (front_tokens ts rest)

front_fault : (ts : List Token) (fault : TokenFault) (at : Place) → front ts (Refused fault at) ≡ Refused fault at
front_fault [] fault at = refl
front_fault (t ∷ ts) fault at = ap (with_token t) (front_fault ts fault at)

front_push : (ts : List Token) (t : Token) (result : Lexing) → front (ts ++ t ∷ []) result ≡ front ts (with_token t result)
front_push [] t result = refl
front_push (u ∷ ts) t result = ap (with_token u) (front_push ts t result)

-- the tokens so far stand before those from here on
abbrev pub Onward : List ℕ → ℕ → List Token → Type 0
Onward text i ts = (r : Lexing) → Lexes text i r → Lexes text 0 (front ts r)

pub onward_gap : (text : List ℕ) (i end : ℕ) (ts : List Token) → IsPiece text i (Gap end) → Onward text i ts → Onward text end ts
onward_gap text i end ts piece before = λ r h. before r (gap piece h)

pub onward_token : (text : List ℕ) (i end : ℕ) (kind : TokenKind) (at : Place) (ts : List Token) → IsPiece text i (Lexeme kind end) → at ≡ place_at text i → Onward text i ts → Onward text end (ts ++ record { kind = kind; start = i; end = end; at = at } ∷ [])
onward_token text i end kind at ts piece place before = λ r h.
    let t : Token = record { kind = kind; start = i; end = end; at = at } in
    let same : with_token t r ≡ with_token (token_at text kind i end) r = ap (λ p. with_token (record { kind = kind; start = i; end = end; at = p }) r) place in
    subst (λ q. Lexes text 0 q) (sym (front_push ts t r)) (before (with_token t r) (token kind end piece h same))

pub onward_end : (text : List ℕ) (i : ℕ) (at : Place) (ts : List Token) → i ≡ length text → at ≡ place_at text i → Onward text i ts → Lexes text 0 (Tokens (ts ++ record { kind = End; start = i; end = i; at = at } ∷ []))
onward_end text i at ts whole place before =
    let t : Token = record { kind = End; start = i; end = i; at = at } in
    let same : Tokens (t ∷ []) ≡ Tokens (token_at text End i i ∷ []) = ap (λ p. Tokens (record { kind = End; start = i; end = i; at = p } ∷ [])) place in
    subst (λ q. Lexes text 0 q) (front_tokens ts (t ∷ [])) (before (Tokens (t ∷ [])) (finished whole same))

pub onward_fault : (text : List ℕ) (i offset : ℕ) (fault : TokenFault) (at : Place) (ts : List Token) → IsPiece text i (Broken fault offset) → at ≡ place_at text offset → Onward text i ts → Lexes text 0 (Refused fault at)
onward_fault text i offset fault at ts piece place before =
    subst (λ q. Lexes text 0 q) (front_fault ts fault at) (before (Refused fault at) (broken fault offset piece (ap (Refused fault) place)))

-- the place of a later offset, from that of an earlier one
pub place_further : (text : List ℕ) (i j : ℕ) → i ≤ j → place_behind (place_at text i) (slice_range text i j) ≡ place_at text j
place_further text i j h =
    let start : Place = record { line = 1; column = 1 } in
    let whole : i + (j - i) ≡ j = omega arith in
    sym (fold-append after_byte start (take i text) (take (j - i) (drop i text))) ∙ ap (λ bytes. fold after_byte start bytes) (sym (take-add i (j - i) text) ∙ ap (λ n. take n text) whole)

pub place_from : (text : List ℕ) (i j : ℕ) (at place : Place) → i ≤ j → at ≡ place_at text i → place ≡ place_behind at (slice_range text i j) → place ≡ place_at text j
place_from text i j at place h e f = f ∙ ap (λ p. place_behind p (slice_range text i j)) e ∙ place_further text i j h

-- Parts are read one after another.
use Rattle.std.proofs.Common.{◌≡◌, ℕ, ◌+◌, List, [], ◌∷◌, ◌++◌, length, refl, ap, sym, ◌∙◌, subst, append_assoc, append-nil, length-append}
use Rattle.bc_data.specs.Lexical.{IsPiece, Gap, Tokens, token_at, Lexes, finished, gap, token}
use Rattle.bc_data.specs.Lexical.{Lexeme as TokenPiece}
use Rattle.bc_data.specs.Seen.{Lexeme, End, lexeme, seen}
use Rattle.bc_data.specs.declared.token.Token.{Token as SourceToken}
use Rattle.bc_data.specs.declared.token.TokenKind.{TokenKind}
use Rattle.bc_data.specs.declared.token.TokenKind.TheVariants as token_kind
use Rattle.bc_law_readback.specs.Parts.{Part, Token, Space, LineFeed, lexeme_text, written, tokens_of, kinds, AreApart, AllSpellable}
use Rattle.bc_law_readback.specs.Steps.{PartsAreRead}
use Rattle.bc_law_readback.proofs.LexingPieces.{token_seen, space_gap, feed_gap}
use Rattle.bc_law_readback.proofs.LexingTouch.{ends_here}

-- from an offset on the text is read as the tokens of these parts
abbrev pub Reads : List ℕ → ℕ → List Part → Type 0
Reads text i ps = (tokens : List SourceToken) × Lexes text i (Tokens tokens) × (kinds (seen text tokens) ≡ tokens_of ps ++ End ∷ [])

behind_token : (text : List ℕ) (i end : ℕ) (kind : TokenKind) (x : Lexeme) (ps : List Part) → IsPiece text i (TokenPiece kind end) → lexeme text i end kind ≡ x → Reads text end ps → Reads text i (Token x ∷ ps)
behind_token text i end kind x ps piece e (tokens, lexes, same) =
    (token_at text kind i end ∷ tokens, token kind end piece lexes refl, ap (λ l. l ∷ kinds (seen text tokens)) e ∙ ap (λ ls. x ∷ ls) same)

behind_gap : (text : List ℕ) (i end : ℕ) (ps : List Part) → IsPiece text i (Gap end) → Reads text end ps → Reads text i ps
behind_gap text i end ps piece (tokens, lexes, same) = (tokens, gap piece lexes, same)

-- the same text and offset
onward : (before here rest : List ℕ) (ps : List Part) → Reads ((before ++ here) ++ rest) (length (before ++ here)) ps → Reads (before ++ (here ++ rest)) (length before + length here) ps
onward before here rest ps h =
    subst (λ i. Reads (before ++ (here ++ rest)) i ps) (length-append before here) (subst (λ text. Reads text (length (before ++ here)) ps) (append_assoc before here rest) h)

rest_apart : (p : Part) (ps : List Part) → AreApart (p ∷ ps) → AreApart ps
rest_apart p [] h = tt
rest_apart p (q ∷ qs) h = h.1

at_end : (before : List ℕ) → Reads (before ++ []) (length before) []
at_end before =
    let text : List ℕ = before ++ [] in
    (token_at text token_kind.End (length before) (length before) ∷ [], finished (ap length (sym (append-nil before))) refl, refl)

read_behind : (ps : List Part) (before : List ℕ) → AreApart ps → AllSpellable (tokens_of ps) → Reads (before ++ written ps) (length before) ps
read_behind [] before apart all = at_end before
read_behind (Token x ∷ ps) before apart all =
    let here : List ℕ = lexeme_text x in
    let seen_as = token_seen x before (written ps) all.0 (ends_here x ps apart all.1) in
    behind_token (before ++ (here ++ written ps)) (length before) (length before + length here) seen_as.0 x ps seen_as.1 seen_as.2
    (onward before here (written ps) ps (read_behind ps (before ++ here) (rest_apart (Token x) ps apart) all.1))
read_behind (Space ∷ ps) before apart all =
    behind_gap (before ++ 32 ∷ written ps) (length before) (length before + 1) ps (space_gap before (written ps))
    (onward before (32 ∷ []) (written ps) ps (read_behind ps (before ++ 32 ∷ []) (rest_apart Space ps apart) all))
read_behind (LineFeed ∷ ps) before apart all =
    behind_gap (before ++ 10 ∷ written ps) (length before) (length before + 1) ps (feed_gap before (written ps))
    (onward before (10 ∷ []) (written ps) ps (read_behind ps (before ++ 10 ∷ []) (rest_apart LineFeed ps apart) all))

pub parts_are_read : PartsAreRead
parts_are_read ps apart all = read_behind ps [] apart all

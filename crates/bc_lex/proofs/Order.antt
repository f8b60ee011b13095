-- The tokens of a text stand in order.
use Rattle.std.proofs.Common.{◌≡◌, ℕ, zero, suc, ◌+◌, ◌-◌, ◌<◌, ◌≤◌, List, [], ◌∷◌, length, slice_index, slice_range, slice_index_or, take, drop, refl, sym, ap, ◌∙◌, arith, subst, get_or-take, get_or-drop, add-zero, length-take, length-drop, true}
use Rattle.std.proofs.lemmas.Bool.{not-false}
use Rattle.bc_data.specs.declared.token.TokenKind.{TokenKind}
use Rattle.bc_data.specs.declared.token.TokenKind.TheVariants.{Keyword, Name, Number, Text, Mark, End}
use Rattle.bc_data.specs.declared.token.Token.{Token}
use Rattle.bc_data.specs.Lexical.{is_letter, is_name_byte, IsRunEnd, Start, Digits, Letters, Opening, Other, start_at, IsPieceFrom, IsPiece, Piece, Gap, Lexeme, Broken, Lexing, Tokens, Refused, with_token, token_at, place_at, Lexes, finished, gap, token, broken, AreTokensOf, IsTextFrom, more, closed, unclosed, wrong, BadByte, OpenText}
use Rattle.bc_data.specs.Names.{IsName}
use Rattle.bc_lex.specs.Laws.{InOrder, IsSpelled, IsWithin}
use Rattle.bc_lex.proofs.Inside.{piece_inside, quote_first, letter_begins}

earlier : (text : List ℕ) (i j : ℕ) (ts : List Token) → i ≤ j → InOrder text j ts → InOrder text i ts
earlier text i j [] low h = absurd h
earlier text i j (t ∷ []) low h = (let high : j ≤ length text = h.0 in omega arith, h.1)
earlier text i j (t ∷ u ∷ ts) low h = (let high : j ≤ t.start = h.0 in omega arith, h.1, h.2, h.3)

in_front : (text : List ℕ) (t : Token) (ts : List Token) → IsPiece text t.start (Lexeme t.kind t.end) → t.at ≡ place_at text t.start → InOrder text t.end ts → InOrder text t.start (t ∷ ts)
in_front text t [] piece place h = absurd h
in_front text t (u ∷ ts) piece place h = (omega arith, piece, place, h)

behind_token : (text : List ℕ) (i end : ℕ) (kind : TokenKind) (s : Lexing) (ts : List Token) → IsPiece text i (Lexeme kind end) → ((us : List Token) → s ≡ Tokens us → InOrder text end us) → with_token (token_at text kind i end) s ≡ Tokens ts → InOrder text i ts
behind_token text i end kind (Tokens us) ts piece next e =
    let same : token_at text kind i end ∷ us ≡ ts = cc in
    subst (λ xs. InOrder text i xs) same (in_front text (token_at text kind i end) us piece refl (next us refl))
behind_token text i end kind (Refused fault at) ts piece next e = absurd (cc)

order : (text : List ℕ) {i : ℕ} {r : Lexing} → Lexes text i r → i ≤ length text → (ts : List Token) → r ≡ Tokens ts → InOrder text i ts
order text (finished {i} whole is) high ts e =
    let both : Tokens (token_at text End i i ∷ []) ≡ Tokens ts = sym is ∙ e in
    let same : token_at text End i i ∷ [] ≡ ts = cc in
    subst (λ xs. InOrder text i xs) same (high, ap (λ n. token_at text End n n) whole)
order text (gap {i} {end} piece rest) high ts e =
    let within : (i < end) × (end ≤ length text) = piece_inside text i (Gap end) piece in
    earlier text i end ts (omega arith) (order text rest within.1 ts e)
order text (token {i} kind end {rest = s} piece rest is) high ts e =
    let within : (i < end) × (end ≤ length text) = piece_inside text i (Lexeme kind end) piece in
    behind_token text i end kind s ts piece (order text rest within.1) (sym is ∙ e)
order text (broken {i} fault offset piece is) high ts e = let never : Refused fault (place_at text offset) ≡ Tokens ts = sym is ∙ e in absurd (cc)

pub in_order : (text : List ℕ) (ts : List Token) → AreTokensOf text ts → InOrder text 0 ts
in_order text ts h = order text h (omega arith) ts refl

text_kind : (text : List ℕ) (opening : ℕ) {i : ℕ} {p : Piece} (kind : TokenKind) (end : ℕ) → IsTextFrom text opening i p → p ≡ Lexeme kind end → Text ≡ kind
text_kind text opening kind end (more e rest) is = text_kind text opening kind end rest is
text_kind text opening kind end (closed {i} e made) is = let same : Lexeme Text (i + 1) ≡ Lexeme kind end = sym made ∙ is in cc
text_kind text opening kind end (unclosed e made) is = let never : Broken OpenText opening ≡ Lexeme kind end = sym made ∙ is in absurd (cc)
text_kind text opening kind end (wrong {offset = k} e made) is = let never : Broken BadByte k ≡ Lexeme kind end = sym made ∙ is in absurd (cc)

first_byte : (text : List ℕ) (i end : ℕ) → i < end → slice_index (slice_range text i end) 0 ≡ slice_index text i
first_byte text i end low = let some : 0 < end - i = omega arith in get_or-take (end - i) (drop i text) 0 0 some ∙ get_or-drop i text 0 0 ∙ ap (λ n. slice_index text n) (add-zero i)

shifted : (text : List ℕ) (i end k : ℕ) → k < end - i → slice_index (slice_range text i end) k ≡ slice_index text (i + k)
shifted text i end k low = get_or-take (end - i) (drop i text) k 0 low ∙ get_or-drop i text k 0

run_fits : (text : List ℕ) (i end k : ℕ) → IsRunEnd is_name_byte text i end → k < length (slice_range text i end) → is_name_byte (slice_index (slice_range text i end) k) ≡ true
run_fits text i end k run low =
    let short : k < end - i = (let len = simp (length-take, length-drop) at low in omega arith) in
    let fits : is_name_byte (slice_index text (i + k)) ≡ true = not-false (is_name_byte (slice_index text (i + k))) (run.before (i + k) (omega arith) (omega arith)) in
    ap is_name_byte (shifted text i end k short) ∙ fits

name_text : (text : List ℕ) (i end : ℕ) → start_at text i ≡ Letters → i < end → IsRunEnd is_name_byte text i end → IsName (slice_range text i end)
name_text text i end e low run = record { first = ap is_letter (first_byte text i end low) ∙ letter_begins text i e; all = λ k within. run_fits text i end k run within }

-- the bytes of a token
spelled_from : (start : Start) (text : List ℕ) (i end : ℕ) (kind : TokenKind) → start_at text i ≡ start → i < end → IsPieceFrom start text i (Lexeme kind end) → IsSpelled kind (slice_range text i end)
spelled_from Digits text i end (Number n) e low h = h.1
spelled_from Letters text i end (Keyword word) e low h = h.1
spelled_from Letters text i end Name e low h = (name_text text i end e low h.0, h.1)
spelled_from Opening text i end kind e low h = subst (λ k. IsSpelled k (slice_range text i end)) (text_kind text i kind end h refl) (first_byte text i end low ∙ quote_first text i e)
spelled_from Other text i end (Mark mark) e low h = ap (λ n. slice_range text i n) h.1 ∙ h.0.stands
spelled_from _ text i end kind e low h = absurd h

within_piece : (text : List ℕ) (t : Token) → IsPiece text t.start (Lexeme t.kind t.end) → IsWithin text t
within_piece text t piece =
    let inside : (t.start < t.end) × (t.end ≤ length text) = piece_inside text t.start (Lexeme t.kind t.end) piece in
    record { order = omega arith; high = inside.1; spelled = spelled_from (start_at text t.start) text t.start t.end t.kind refl inside.0 piece.1 }

within_end : (text : List ℕ) (t : Token) → t ≡ token_at text End (length text) (length text) → IsWithin text t
within_end text t e =
    let n : ℕ = length text in
    let none : n - n ≡ 0 = omega arith in
    subst (λ u. IsWithin text u) (sym e) (record { order = omega arith; high = omega arith; spelled = ap (λ m. take m (drop n text)) none })

within_at : (text : List ℕ) (from : ℕ) (ts : List Token) → InOrder text from ts → (k : ℕ) (d : Token) → k < length ts → IsWithin text (slice_index_or ts k d)
within_at text from [] h k d low = absurd h
within_at text from (t ∷ []) h zero d low = within_end text t h.1
within_at text from (t ∷ []) h (suc k) d low = absurd (omega arith)
within_at text from (t ∷ u ∷ ts) h zero d low = within_piece text t h.1
within_at text from (t ∷ u ∷ ts) h (suc k) d low = within_at text t.end (u ∷ ts) h.3 k d (omega arith)

pub tokens_within : (text : List ℕ) (ts : List Token) → AreTokensOf text ts → (k : ℕ) (d : Token) → k < length ts → IsWithin text (slice_index_or ts k d)
tokens_within text ts h = within_at text 0 ts (in_order text ts h)

-- A text has at most one piece at an offset, and at most one lexing.
use Rattle.std.proofs.Common.{◌≡◌, ℕ, ◌+◌, ◌<◌, ◌≤◌, ◌==◌, ◌&&◌, inl, inr, Bool, not, List, length, slice_index, slice_range, sym, ap, ◌∙◌, arith, subst, Some, None, ℤ}
use Rattle.std.proofs.lemmas.Bool.{cases_order, false≢true}
use Rattle.bc_data.specs.declared.token.Sign.{Sign}
use Rattle.bc_data.specs.declared.token.Word.{Word}
use Rattle.bc_data.specs.declared.token.TokenKind.TheVariants.{Keyword, Name, Number, Mark}
use Rattle.bc_data.specs.Spelling.{sign_text, word_text, number_of}
use Rattle.bc_data.specs.Lexical.{is_digit, is_name_byte, Whole, Quote, Missing, Wrong, IsTextFrom, more, closed, unclosed, wrong, Start, Blank, LineComment, BlockComment, Digits, Letters, Opening, Other, start_at, IsPieceFrom, IsPiece, Piece, Gap, Lexeme, Broken, BadByte, OpenComment, NumberRange, StandsAt, IsMarkAt, IsFirst, IsRunEnd, IsLineEnd, IsClosing, Lexing, Refused, with_token, token_at, place_at, Lexes, finished, gap, token, broken}
use Rattle.bc_lex.proofs.Tables.{word_same, mark_same}

pub first_same : (test : ℕ → Bool) (i n a b : ℕ) → IsFirst test i n a → IsFirst test i n b → a ≡ b
first_same test i n a b f g =
    elim (cases_order a b) [
      | inl e ↦ e
      | inr o ↦ elim o [
        | inl h ↦ absurd (false≢true (sym (g.before a f.from h) ∙ f.here (let top : b ≤ n = g.to in omega arith)))
        | inr h ↦ absurd (false≢true (sym (f.before b g.from h) ∙ g.here (let top : a ≤ n = f.to in omega arith)))
      ]
    ]

line_same : (text : List ℕ) (i end : ℕ) → IsLineEnd text (i + 2) end → (q : Piece) → IsPieceFrom LineComment text i q → Gap end ≡ q
line_same text i end h (Gap other) k = ap Gap (first_same (λ k. slice_index text k == 10) (i + 2) (length text) end other h k)
line_same text i end h _ k = absurd k

closing_same : (text : List ℕ) (i a b : ℕ) → IsClosing text i a → IsClosing text i b → a ≡ b
closing_same text i a b f g = first_same (λ k. slice_index text k == 42 && slice_index text (k + 1) == 47) i (length text) a b f g

block_same : (text : List ℕ) (i close : ℕ) → IsClosing text (i + 2) close → close < length text → (q : Piece) → IsPieceFrom BlockComment text i q → Gap (close + 2) ≡ q
block_same text i close h within (Gap end) k = let same : close ≡ k.0 = closing_same text (i + 2) close k.0 h k.1 in ap Gap (ap (λ c. c + 2) same ∙ sym k.3)
block_same text i close h within (Broken OpenComment at) k = let same : close ≡ length text = closing_same text (i + 2) close (length text) h k.0 in absurd (omega arith)
block_same text i close h within _ k = absurd k

open_same : (text : List ℕ) (i : ℕ) → IsClosing text (i + 2) (length text) → (q : Piece) → IsPieceFrom BlockComment text i q → Broken OpenComment i ≡ q
open_same text i h (Gap end) k = let same : length text ≡ k.0 = closing_same text (i + 2) (length text) k.0 h k.1 in let within : k.0 < length text = k.2 in absurd (omega arith)
open_same text i h (Broken OpenComment at) k = ap (Broken OpenComment) (sym k.1)
open_same text i h _ k = absurd k

run_same : (fits : ℕ → Bool) (text : List ℕ) (i a b : ℕ) → IsRunEnd fits text i a → IsRunEnd fits text i b → a ≡ b
run_same fits text i a b f g = first_same (λ k. not (fits (slice_index text k))) i (length text) a b f g

-- what the same run stands for
number_along : (text : List ℕ) (i a b : ℕ) → IsRunEnd is_digit text i a → IsRunEnd is_digit text i b → number_of (slice_range text i a) ≡ number_of (slice_range text i b)
number_along text i a b f g = ap (λ e. number_of (slice_range text i e)) (run_same is_digit text i a b f g)

number_same : (text : List ℕ) (i end : ℕ) (n : ℤ) → IsRunEnd is_digit text i end → number_of (slice_range text i end) ≡ Some n → (q : Piece) → IsPieceFrom Digits text i q → Lexeme (Number n) end ≡ q
number_same text i end n run is (Lexeme (Number m) other) k =
    let ends : end ≡ other = run_same is_digit text i end other run k.0 in
    let some : Some n ≡ Some m = sym is ∙ number_along text i end other run k.0 ∙ k.1 in
    let same : n ≡ m = cc in
    cc
number_same text i end n run is (Broken NumberRange at) k = let never : Some n ≡ None = sym is ∙ number_along text i end k.0 run k.1 ∙ k.2 in absurd (cc)
number_same text i end n run is _ k = absurd k

range_same : (text : List ℕ) (i end : ℕ) → IsRunEnd is_digit text i end → number_of (slice_range text i end) ≡ None → (q : Piece) → IsPieceFrom Digits text i q → Broken NumberRange i ≡ q
range_same text i end run is (Lexeme (Number m) other) k = let never : None ≡ Some m = sym is ∙ number_along text i end other run k.0 ∙ k.1 in absurd (cc)
range_same text i end run is (Broken NumberRange at) k = ap (Broken NumberRange) (sym k.3)
range_same text i end run is _ k = absurd k

spelling_along : (text : List ℕ) (i a b : ℕ) → IsRunEnd is_name_byte text i a → IsRunEnd is_name_byte text i b → slice_range text i a ≡ slice_range text i b
spelling_along text i a b f g = ap (λ e. slice_range text i e) (run_same is_name_byte text i a b f g)

keyword_same : (text : List ℕ) (i end : ℕ) (w : Word) → IsRunEnd is_name_byte text i end → slice_range text i end ≡ word_text w → (q : Piece) → IsPieceFrom Letters text i q → Lexeme (Keyword w) end ≡ q
keyword_same text i end w run is (Lexeme (Keyword v) other) k =
    let ends : end ≡ other = run_same is_name_byte text i end other run k.0 in
    let same : w ≡ v = word_same w v (sym is ∙ spelling_along text i end other run k.0 ∙ k.1) in
    cc
keyword_same text i end w run is (Lexeme Name other) k = absurd (k.1 w (sym (spelling_along text i end other run k.0) ∙ is))
keyword_same text i end w run is _ k = absurd k

name_same : (text : List ℕ) (i end : ℕ) → IsRunEnd is_name_byte text i end → ((w : Word) → slice_range text i end ≡ word_text w → ⊥) → (q : Piece) → IsPieceFrom Letters text i q → Lexeme Name end ≡ q
name_same text i end run none (Lexeme (Keyword v) other) k = absurd (none v (spelling_along text i end other run k.0 ∙ k.1))
name_same text i end run none (Lexeme Name other) k = ap (Lexeme Name) (run_same is_name_byte text i end other run k.0)
name_same text i end run none _ k = absurd k

longest_same : (text : List ℕ) (i : ℕ) (s t : Sign) → IsMarkAt text i s → IsMarkAt text i t → s ≡ t
longest_same text i s t f g =
    let low : length (sign_text t) ≤ length (sign_text s) = f.longest t g.stands in
    let high : length (sign_text s) ≤ length (sign_text t) = g.longest s f.stands in
    let len : length (sign_text s) ≡ length (sign_text t) = omega arith in
    mark_same s t (sym f.stands ∙ ap (λ n. slice_range text i (i + n)) len ∙ g.stands)

mark_piece_same : (text : List ℕ) (i : ℕ) (s : Sign) → IsMarkAt text i s → (q : Piece) → IsPieceFrom Other text i q → Lexeme (Mark s) (i + length (sign_text s)) ≡ q
mark_piece_same text i s h (Lexeme (Mark t) end) k =
    let same : s ≡ t = longest_same text i s t h k.0 in
    ap (λ m. Lexeme (Mark m) (i + length (sign_text m))) same ∙ ap (Lexeme (Mark t)) (sym k.1)
mark_piece_same text i s h (Broken BadByte at) k = absurd (k.0 s h.stands)
mark_piece_same text i s h _ k = absurd k

bad_same : (text : List ℕ) (i : ℕ) → ((s : Sign) → StandsAt text i (sign_text s) → ⊥) → (q : Piece) → IsPieceFrom Other text i q → Broken BadByte i ≡ q
bad_same text i none (Lexeme (Mark t) end) k = absurd (none t k.0.stands)
bad_same text i none (Broken BadByte at) k = ap (Broken BadByte) (sym k.1)
bad_same text i none _ k = absurd k

blank_same : (text : List ℕ) (i : ℕ) (q : Piece) → IsPieceFrom Blank text i q → Gap (i + 1) ≡ q
blank_same text i (Gap end) k = ap Gap (sym k)
blank_same text i _ k = absurd k

pub text_same : (text : List ℕ) (opening : ℕ) {i : ℕ} {p q : Piece} → IsTextFrom text opening i p → IsTextFrom text opening i q → p ≡ q
text_same text opening (more {i} {len} e r) (more {len = other} {piece = q} f s) = let same : len ≡ other = (let both : Whole len ≡ Whole other = sym e ∙ f in cc) in text_same text opening r (subst (λ n. IsTextFrom text opening (i + n) q) (sym same) s)
text_same text opening (more {i} {len} e r) (closed f b) = let never : Whole len ≡ Quote = sym e ∙ f in absurd (cc)
text_same text opening (more {i} {len} e r) (unclosed f b) = let never : Whole len ≡ Missing = sym e ∙ f in absurd (cc)
text_same text opening (more {i} {len} e r) (wrong {offset = k} f b) = let never : Whole len ≡ Wrong k = sym e ∙ f in absurd (cc)
text_same text opening (closed e a) (more {len = len} f s) = let never : Whole len ≡ Quote = sym f ∙ e in absurd (cc)
text_same text opening (closed e a) (closed f b) = a ∙ sym b
text_same text opening (closed e a) (unclosed f b) = let never : Quote ≡ Missing = sym e ∙ f in absurd (cc)
text_same text opening (closed e a) (wrong {offset = k} f b) = let never : Quote ≡ Wrong k = sym e ∙ f in absurd (cc)
text_same text opening (unclosed e a) (more {len = len} f s) = let never : Whole len ≡ Missing = sym f ∙ e in absurd (cc)
text_same text opening (unclosed e a) (closed f b) = let never : Quote ≡ Missing = sym f ∙ e in absurd (cc)
text_same text opening (unclosed e a) (unclosed f b) = a ∙ sym b
text_same text opening (unclosed e a) (wrong {offset = k} f b) = let never : Missing ≡ Wrong k = sym e ∙ f in absurd (cc)
text_same text opening (wrong {offset = k} e a) (more {len = len} f s) = let never : Whole len ≡ Wrong k = sym f ∙ e in absurd (cc)
text_same text opening (wrong {offset = k} e a) (closed f b) = let never : Quote ≡ Wrong k = sym f ∙ e in absurd (cc)
text_same text opening (wrong {offset = k} e a) (unclosed f b) = let never : Missing ≡ Wrong k = sym f ∙ e in absurd (cc)
text_same text opening (wrong {offset = k} e a) (wrong {offset = m} f b) = let same : k ≡ m = (let both : Wrong k ≡ Wrong m = sym e ∙ f in cc) in a ∙ ap (Broken BadByte) same ∙ sym b

same_from : (start : Start) (text : List ℕ) (i : ℕ) (p q : Piece) → IsPieceFrom start text i p → IsPieceFrom start text i q → p ≡ q
same_from Blank text i (Gap end) q h k = ap Gap h ∙ blank_same text i q k
same_from LineComment text i (Gap end) q h k = line_same text i end h q k
same_from BlockComment text i (Gap end) q h k = ap Gap h.3 ∙ block_same text i h.0 h.1 h.2 q k
same_from BlockComment text i (Broken OpenComment at) q h k = ap (Broken OpenComment) h.1 ∙ open_same text i h.0 q k
same_from Digits text i (Lexeme (Number n) end) q h k = number_same text i end n h.0 h.1 q k
same_from Digits text i (Broken NumberRange at) q h k = ap (Broken NumberRange) h.3 ∙ range_same text i h.0 h.1 h.2 q k
same_from Letters text i (Lexeme (Keyword word) end) q h k = keyword_same text i end word h.0 h.1 q k
same_from Letters text i (Lexeme Name end) q h k = name_same text i end h.0 h.1 q k
same_from Opening text i p q h k = text_same text i h k
same_from Other text i (Lexeme (Mark mark) end) q h k = ap (Lexeme (Mark mark)) h.1 ∙ mark_piece_same text i mark h.0 q k
same_from Other text i (Broken BadByte at) q h k = ap (Broken BadByte) h.1 ∙ bad_same text i h.0 q k
same_from _ text i p q h k = absurd h

pub piece_same : (text : List ℕ) (i : ℕ) (p q : Piece) → IsPiece text i p → IsPiece text i q → p ≡ q
piece_same text i p q h k = same_from (start_at text i) text i p q h.1 k.1

ended : (text : List ℕ) (i : ℕ) (p : Piece) → i ≡ length text → IsPiece text i p → ⊥
ended text i p e h = let within : i < length text = h.0 in omega arith

pub lexes_same : (text : List ℕ) {i : ℕ} {a b : Lexing} → Lexes text i a → Lexes text i b → a ≡ b
lexes_same text (finished e a) (finished f b) = a ∙ sym b
lexes_same text (finished {i} e a) (gap {end = end} f r) = absurd (ended text i (Gap end) e f)
lexes_same text (finished {i} e a) (token kind end f r b) = absurd (ended text i (Lexeme kind end) e f)
lexes_same text (finished {i} e a) (broken fault offset f b) = absurd (ended text i (Broken fault offset) e f)
lexes_same text (gap {i} {end} e r) (finished f b) = absurd (ended text i (Gap end) f e)
lexes_same text (gap {i} {end} e r) (gap {end = other} {result = b} f s) = let same : end ≡ other = (let both : Gap end ≡ Gap other = piece_same text i (Gap end) (Gap other) e f in cc) in lexes_same text r (subst (λ n. Lexes text n b) (sym same) s)
lexes_same text (gap {i} {end} e r) (token kind other f s b) = let never : Gap end ≡ Lexeme kind other = piece_same text i (Gap end) (Lexeme kind other) e f in absurd (cc)
lexes_same text (gap {i} {end} e r) (broken fault offset f b) = let never : Gap end ≡ Broken fault offset = piece_same text i (Gap end) (Broken fault offset) e f in absurd (cc)
lexes_same text (token {i} kind end e r a) (finished f b) = absurd (ended text i (Lexeme kind end) f e)
lexes_same text (token {i} kind end e r a) (gap {end = other} f s) = let never : Lexeme kind end ≡ Gap other = piece_same text i (Lexeme kind end) (Gap other) e f in absurd (cc)
lexes_same text (token {i} kind end {rest = rest} e r a) (token kind2 other {rest = rest2} f s b) =
    let both : Lexeme kind end ≡ Lexeme kind2 other = piece_same text i (Lexeme kind end) (Lexeme kind2 other) e f in
    let ends : end ≡ other = cc in
    let kinds : kind ≡ kind2 = cc in
    let rests : rest ≡ rest2 = lexes_same text r (subst (λ n. Lexes text n rest2) (sym ends) s) in
    a ∙ ap (with_token (token_at text kind i end)) rests ∙ ap (λ t. with_token t rest2) (ap (λ k. token_at text k i end) kinds ∙ ap (token_at text kind2 i) ends) ∙ sym b
lexes_same text (token {i} kind end e r a) (broken fault offset f b) = let never : Lexeme kind end ≡ Broken fault offset = piece_same text i (Lexeme kind end) (Broken fault offset) e f in absurd (cc)
lexes_same text (broken {i} fault offset e a) (finished f b) = absurd (ended text i (Broken fault offset) f e)
lexes_same text (broken {i} fault offset e a) (gap {end = other} f s) = let never : Broken fault offset ≡ Gap other = piece_same text i (Broken fault offset) (Gap other) e f in absurd (cc)
lexes_same text (broken {i} fault offset e a) (token kind other f s b) = let never : Broken fault offset ≡ Lexeme kind other = piece_same text i (Broken fault offset) (Lexeme kind other) e f in absurd (cc)
lexes_same text (broken {i} fault offset e a) (broken fault2 offset2 f b) =
    let both : Broken fault offset ≡ Broken fault2 offset2 = piece_same text i (Broken fault offset) (Broken fault2 offset2) e f in
    let faults : fault ≡ fault2 = cc in
    let offsets : offset ≡ offset2 = cc in
    a ∙ ap (λ k. Refused k (place_at text offset)) faults ∙ ap (λ k. Refused fault2 (place_at text k)) offsets ∙ sym b

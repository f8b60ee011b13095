-- What the tokens behind an expression do.
use Rattle.std.proofs.Common.{◌<◌, ◌≡◌, ℕ, List, [], ◌∷◌, ◌++◌, refl, ap, ◌+◌, ◌≤◌, arith, false, if◌then◌else◌}
use Rattle.bc_data.specs.Seen.{Lexeme, Mark, lexeme, seen, seen_token}
use Rattle.bc_data.specs.SourceTree.{Expression, Var, Field, Two, Expressions, Arg, height}
use Rattle.bc_data.specs.View.{view, views}
use Rattle.bc_data.specs.Grammar.{sign_of, looseness}
use Rattle.bc_data.specs.declared.run.Place.{Place}
use Rattle.bc_data.specs.declared.program.Op.{Op}
use Rattle.bc_data.specs.declared.tree.ExprText.{ExprText}
use Rattle.bc_data.specs.declared.token.Sign.{Sign}
use Rattle.bc_data.specs.declared.token.Sign.TheVariants as sign
use Rattle.bc_data.specs.declared.token.Token.{Token}
use Rattle.bc_data.specs.declared.token.TokenKind.{TokenKind}
use Rattle.bc_data.specs.declared.token.TokenKind.TheVariants as token_kind
use Rattle.bc_law_grammar.specs.Machine.{Paren, Bracket, Semicolon, Stack, InTwo, Inside, InArgs, InChain, State, Never, OnMark, Want, Got, After, No, On, levels, run, follow, link, not_link, open_call, reach, kind_at, Room, NoCall, Unbracketed, same_mark, Refused, TooDeep}
use Rattle.bc_law_grammar.proofs.Steps.{push_two, blocked_two, end_two}
use Rattle.bc_parse_expr.specs.Contract.{first_kind, reach_of, IsLinked, ChainIs, closer_of, closing_of}
use Rattle.bc_parse_expr.specs.declared.cursor.Close.{Close}
use Rattle.bc_parse_expr.specs.declared.cursor.Close.TheVariants as close

pub reach_lexeme : (text : List ℕ) (start stop : ℕ) (k : TokenKind) → reach (lexeme text start stop k) ≡ reach (lexeme [] 0 0 k)
reach_lexeme text start stop (token_kind.Keyword w) = refl
reach_lexeme text start stop token_kind.Name = refl
reach_lexeme text start stop (token_kind.Number n) = refl
reach_lexeme text start stop token_kind.Text = refl
reach_lexeme text start stop (token_kind.Mark s) = refl
reach_lexeme text start stop token_kind.End = refl

reach_seen : (text : List ℕ) (ts : List Token) → reach (kind_at (seen text ts)) ≡ reach_of ts
reach_seen text [] = refl
reach_seen text (t ∷ ts) = reach_lexeme text t.start t.end t.kind

pub push_seen : (text : List ℕ) (op : Op) (t : Token) (a : Expression) (st : Stack) (ts : List Token) → t.kind ≡ token_kind.Mark (sign_of op) → Room (looseness op) st → height a + levels st + 1 ≤ 64 → run 64 (After a st) (seen text (t ∷ ts)) ≡ run 64 (Want (InTwo t.at op a st)) (seen text ts)
push_seen text op t a st ts e room h = push_two 64 op (seen_token text t) a st (seen text ts) (ap (lexeme text t.start t.end) e) room h

pub blocked_seen : (text : List ℕ) (op : Op) (t : Token) (a : Expression) (st : Stack) (ts : List Token) → t.kind ≡ token_kind.Mark (sign_of op) → Room (looseness op) st → 64 < height a + levels st + 1 → run 64 (After a st) (seen text (t ∷ ts)) ≡ Refused TooDeep t.at
blocked_seen text op t a st ts e room h = blocked_two 64 op (seen_token text t) a st (seen text ts) (ap (lexeme text t.start t.end) e) room h

pub end_seen : (text : List ℕ) (m : Place) (op : Op) (a b : Expression) (st : Stack) (ts : List Token) → looseness op ≤ reach_of ts → run 64 (After b (InTwo m op a st)) (seen text ts) ≡ run 64 (After (Two m op a b) st) (seen text ts)
end_seen text m op a b st ts h = end_two 64 m op a b st (seen text ts) (omega (arith, reach_seen text ts))

-- the place of an expression ends with its closing mark alone
paren_step : (k : Lexeme) (at : Place) (e : Expression) (next : Expression → State) (st : Stack) → 7 < reach k → not_link k at e (Inside Paren next st) ≡ (if same_mark sign.CloseParen k then On (next e) else No)
paren_step (Mark sign.Star) at e next st h = absurd (omega arith)
paren_step (Mark sign.Slash) at e next st h = absurd (omega arith)
paren_step (Mark sign.Percent) at e next st h = absurd (omega arith)
paren_step (Mark sign.Plus) at e next st h = absurd (omega arith)
paren_step (Mark sign.Minus) at e next st h = absurd (omega arith)
paren_step (Mark sign.Less) at e next st h = absurd (omega arith)
paren_step (Mark sign.LessEq) at e next st h = absurd (omega arith)
paren_step (Mark sign.More) at e next st h = absurd (omega arith)
paren_step (Mark sign.MoreEq) at e next st h = absurd (omega arith)
paren_step (Mark sign.Same) at e next st h = absurd (omega arith)
paren_step (Mark sign.Differ) at e next st h = absurd (omega arith)
paren_step (Mark sign.Both) at e next st h = absurd (omega arith)
paren_step (Mark sign.Either) at e next st h = absurd (omega arith)
paren_step k at e next st h = refl

bracket_step : (k : Lexeme) (at : Place) (e : Expression) (next : Expression → State) (st : Stack) → 7 < reach k → not_link k at e (Inside Bracket next st) ≡ (if same_mark sign.CloseBracket k then On (next e) else No)
bracket_step (Mark sign.Star) at e next st h = absurd (omega arith)
bracket_step (Mark sign.Slash) at e next st h = absurd (omega arith)
bracket_step (Mark sign.Percent) at e next st h = absurd (omega arith)
bracket_step (Mark sign.Plus) at e next st h = absurd (omega arith)
bracket_step (Mark sign.Minus) at e next st h = absurd (omega arith)
bracket_step (Mark sign.Less) at e next st h = absurd (omega arith)
bracket_step (Mark sign.LessEq) at e next st h = absurd (omega arith)
bracket_step (Mark sign.More) at e next st h = absurd (omega arith)
bracket_step (Mark sign.MoreEq) at e next st h = absurd (omega arith)
bracket_step (Mark sign.Same) at e next st h = absurd (omega arith)
bracket_step (Mark sign.Differ) at e next st h = absurd (omega arith)
bracket_step (Mark sign.Both) at e next st h = absurd (omega arith)
bracket_step (Mark sign.Either) at e next st h = absurd (omega arith)
bracket_step k at e next st h = refl

semicolon_step : (k : Lexeme) (at : Place) (e : Expression) (next : Expression → State) (st : Stack) → 7 < reach k → not_link k at e (Inside Semicolon next st) ≡ (if same_mark sign.Semicolon k then On (next e) else No)
semicolon_step (Mark sign.Star) at e next st h = absurd (omega arith)
semicolon_step (Mark sign.Slash) at e next st h = absurd (omega arith)
semicolon_step (Mark sign.Percent) at e next st h = absurd (omega arith)
semicolon_step (Mark sign.Plus) at e next st h = absurd (omega arith)
semicolon_step (Mark sign.Minus) at e next st h = absurd (omega arith)
semicolon_step (Mark sign.Less) at e next st h = absurd (omega arith)
semicolon_step (Mark sign.LessEq) at e next st h = absurd (omega arith)
semicolon_step (Mark sign.More) at e next st h = absurd (omega arith)
semicolon_step (Mark sign.MoreEq) at e next st h = absurd (omega arith)
semicolon_step (Mark sign.Same) at e next st h = absurd (omega arith)
semicolon_step (Mark sign.Differ) at e next st h = absurd (omega arith)
semicolon_step (Mark sign.Both) at e next st h = absurd (omega arith)
semicolon_step (Mark sign.Either) at e next st h = absurd (omega arith)
semicolon_step k at e next st h = refl

close_step : (c : Close) (k : Lexeme) (at : Place) (e : Expression) (next : Expression → State) (st : Stack) → 7 < reach k → not_link k at e (Inside (closer_of c) next st) ≡ (if same_mark (closing_of c) k then On (next e) else No)
close_step close.Paren k at e next st h = paren_step k at e next st h
close_step close.Bracket k at e next st h = bracket_step k at e next st h
close_step close.Semicolon k at e next st h = semicolon_step k at e next st h

pub inside_end : (text : List ℕ) (c : Close) (e : Expression) (next : Expression → State) (st : Stack) (ts : List Token) → 7 < reach_of ts → run 64 (After e (Inside (closer_of c) next st)) (seen text ts) ≡ run 64 (OnMark (closing_of c) (λ _. next e) Never) (seen text ts)
inside_end text c e next st [] h = refl
inside_end text c e next st (t ∷ ts) h = ap (follow 64 t.at (λ s. run 64 s (seen text ts))) (close_step c (lexeme text t.start t.end t.kind) t.at e next st (omega (arith, reach_lexeme text t.start t.end t.kind)))

-- arguments end with `)` or `,`
args_step : (k : Lexeme) (at : Place) (e : Expression) (args : Expressions) (next : Expressions → State) (st : Stack) → 7 < reach k
    → not_link k at e (InArgs args next st) ≡ (if same_mark sign.CloseParen k then On (next (Arg args e)) else (if same_mark sign.Comma k then On (Want (InArgs (Arg args e) next st)) else No))
args_step (Mark sign.Star) at e args next st h = absurd (omega arith)
args_step (Mark sign.Slash) at e args next st h = absurd (omega arith)
args_step (Mark sign.Percent) at e args next st h = absurd (omega arith)
args_step (Mark sign.Plus) at e args next st h = absurd (omega arith)
args_step (Mark sign.Minus) at e args next st h = absurd (omega arith)
args_step (Mark sign.Less) at e args next st h = absurd (omega arith)
args_step (Mark sign.LessEq) at e args next st h = absurd (omega arith)
args_step (Mark sign.More) at e args next st h = absurd (omega arith)
args_step (Mark sign.MoreEq) at e args next st h = absurd (omega arith)
args_step (Mark sign.Same) at e args next st h = absurd (omega arith)
args_step (Mark sign.Differ) at e args next st h = absurd (omega arith)
args_step (Mark sign.Both) at e args next st h = absurd (omega arith)
args_step (Mark sign.Either) at e args next st h = absurd (omega arith)
args_step k at e args next st h = refl

pub args_end : (text : List ℕ) (e : Expression) (args : Expressions) (next : Expressions → State) (st : Stack) (ts : List Token) → 7 < reach_of ts
    → run 64 (After e (InArgs args next st)) (seen text ts) ≡ run 64 (OnMark sign.CloseParen (λ _. next (Arg args e)) (OnMark sign.Comma (λ _. Want (InArgs (Arg args e) next st)) Never)) (seen text ts)
args_end text e args next st [] h = refl
args_end text e args next st (t ∷ ts) h = ap (follow 64 t.at (λ s. run 64 s (seen text ts))) (args_step (lexeme text t.start t.end t.kind) t.at e args next st (omega (arith, reach_lexeme text t.start t.end t.kind)))

-- behind the last link
no_call : (e : Expression) (st : Stack) → NoCall (Mark sign.OpenParen) e → open_call e st ≡ No
no_call (Field at a x) st h = absurd h
no_call _ st h = refl

link_end : (k : Lexeme) (at : Place) (e : Expression) (st : Stack) → (k ≡ Mark sign.Dot → ⊥) → (k ≡ Mark sign.OpenBracket → ⊥) → NoCall k e → link k at e st ≡ not_link k at e st
link_end (Mark sign.Dot) at e st d b h = absurd (d refl)
link_end (Mark sign.OpenBracket) at e st d b h = absurd (b refl)
link_end (Mark sign.OpenParen) at e st d b h = no_call e st h
link_end k at e st d b h = refl

lexeme_mark : (text : List ℕ) (start stop : ℕ) (k : TokenKind) (s : Sign) → (k ≡ token_kind.Mark s → ⊥) → lexeme text start stop k ≡ Mark s → ⊥
lexeme_mark text start stop (token_kind.Mark r) s h e = h (let same : r ≡ s = cc in ap token_kind.Mark same)
lexeme_mark text start stop (token_kind.Keyword w) s h e = cc
lexeme_mark text start stop token_kind.Name s h e = cc
lexeme_mark text start stop (token_kind.Number n) s h e = cc
lexeme_mark text start stop token_kind.Text s h e = cc
lexeme_mark text start stop token_kind.End s h e = cc

pub links_end : (text : List ℕ) (e : Expression) (st : Stack) (ts : List Token) → (first_kind ts ≡ token_kind.Mark sign.Dot → ⊥) → (first_kind ts ≡ token_kind.Mark sign.OpenBracket → ⊥) → NoCall (kind_at (seen text ts)) e → run 64 (Got e st) (seen text ts) ≡ run 64 (After e st) (seen text ts)
links_end text e st [] d b h = refl
links_end text e st (t ∷ ts) d b h =
    ap (follow 64 t.at (λ s. run 64 s (seen text ts)))
    (link_end (lexeme text t.start t.end t.kind) t.at e st (lexeme_mark text t.start t.end t.kind sign.Dot d) (lexeme_mark text t.start t.end t.kind sign.OpenBracket b) h)

no_opening : (k : Lexeme) (e : Expression) → (k ≡ Mark sign.OpenParen → ⊥) → NoCall k e
no_opening (Mark sign.OpenParen) (Field at a x) h = h refl
no_opening _ e h = tt

pub not_opening : (text : List ℕ) (e : Expression) (ts : List Token) → (first_kind ts ≡ token_kind.Mark sign.OpenParen → ⊥) → NoCall (kind_at (seen text ts)) e
not_opening text e [] h = tt
not_opening text e (t ∷ ts) h = no_opening (lexeme text t.start t.end t.kind) e (lexeme_mark text t.start t.end t.kind sign.OpenParen h)

pub room_chain : (st : Stack) → Room 1 st → ChainIs false st
room_chain (InChain front st) room = absurd (omega arith)
room_chain _ room = tt

pub linked_unbracketed : (k : Lexeme) (e : Expression) (st : Stack) → IsLinked e → Unbracketed k e st
linked_unbracketed (Mark sign.OpenBracket) (Var x) (InChain front st) h = h
linked_unbracketed k e st h = tt

-- one more at the end
pub views_push : (es : List ExprText) (e : ExprText) (front : Expressions) → views (es ++ e ∷ []) front ≡ Arg (views es front) (view e)
views_push [] e front = refl
views_push (d ∷ es) e front = views_push es e (Arg front (view d))

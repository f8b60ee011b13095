-- What the tokens behind the beginning of a chain do.
use Rattle.std.proofs.Common.{◌⊎◌, inl, inr, ◌<◌, ◌≡◌, ℕ, List, [], ◌∷◌, refl, ap, sym, subst, ◌∙◌, ◌+◌, ◌≤◌, max, arith, if◌then◌else◌}
use Rattle.std.proofs.lemmas.Bool.{lt-leb}
use Rattle.bc_data.specs.Seen.{Lexeme, Seen, Keyword, Name, Number, Text, Mark, End, lexeme, seen, seen_token}
use Rattle.bc_data.specs.SourceTree.{Expression, This, Var, Elem, Statements}
use Rattle.bc_data.specs.declared.run.Place.{Place}
use Rattle.bc_data.specs.declared.tree.Named.{Named}
use Rattle.bc_data.specs.declared.token.Word.TheVariants as word
use Rattle.bc_data.specs.declared.token.Sign.TheVariants as sign
use Rattle.bc_data.specs.declared.token.Token.{Token}
use Rattle.bc_data.specs.declared.token.TokenKind.{TokenKind}
use Rattle.bc_data.specs.declared.token.TokenKind.TheVariants as token_kind
use Rattle.bc_law_grammar.specs.Machine.{Bracket, Stack, Inside, InChain, State, Got, Bracketed, Step, No, On, Deep, levels, raise, run, follow, want, bracketed, elem_value, kind_at, Unbracketed, Refused, TooDeep, Unexpected}
use Rattle.bc_law_grammar.proofs.Forward.{bracket_want, NotBracketEnd}
use Rattle.bc_parse_expr.specs.Contract.{first_kind}
use Rattle.bc_parse_stat.specs.Reading.{IsOperandKind}

pub this_unbracketed : (k : Lexeme) (at : Place) (st : Stack) → Unbracketed k (This at) st
this_unbracketed (Mark sign.OpenBracket) at st = tt
this_unbracketed k at st = tt

plain_kind : (text : List ℕ) (start stop : ℕ) (k : TokenKind) (e : Expression) (st : Stack) → (k ≡ token_kind.Mark sign.OpenBracket → ⊥) → Unbracketed (lexeme text start stop k) e st
plain_kind text start stop (token_kind.Mark sign.OpenBracket) e st h = absurd (h refl)
plain_kind text start stop (token_kind.Mark s) e st h = tt
plain_kind text start stop (token_kind.Keyword w) e st h = tt
plain_kind text start stop token_kind.Name e st h = tt
plain_kind text start stop (token_kind.Number n) e st h = tt
plain_kind text start stop token_kind.Text e st h = tt
plain_kind text start stop token_kind.End e st h = tt

pub plain_unbracketed : (text : List ℕ) (ts : List Token) (e : Expression) (st : Stack) → (first_kind ts ≡ token_kind.Mark sign.OpenBracket → ⊥) → Unbracketed (kind_at (seen text ts)) e st
plain_unbracketed text [] e st h = tt
plain_unbracketed text (t ∷ ts) e st h = plain_kind text t.start t.end t.kind e st h

no_end : (text : List ℕ) (start stop : ℕ) (k : TokenKind) → (k ≡ token_kind.Mark sign.CloseBracket → ⊥) → NotBracketEnd (lexeme text start stop k)
no_end text start stop (token_kind.Mark sign.CloseBracket) h = h refl
no_end text start stop (token_kind.Mark s) h = tt
no_end text start stop (token_kind.Keyword w) h = tt
no_end text start stop token_kind.Name h = tt
no_end text start stop (token_kind.Number n) h = tt
no_end text start stop token_kind.Text h = tt
no_end text start stop token_kind.End h = tt

pub bracket_seen : (text : List ℕ) (at : Place) (kind : Named) (front : Statements) (st : Stack) (ts : List Token) → levels st + 2 ≤ 64 → (first_kind ts ≡ token_kind.Mark sign.CloseBracket → ⊥)
    → run 64 (Bracketed at kind front st) (seen text ts) ≡ run 64 (elem_value at (Var kind) (InChain front st)) (seen text ts)
bracket_seen text at kind front st [] low h = refl
bracket_seen text at kind front st (t ∷ ts) low h = bracket_want 64 at kind front st (seen text (t ∷ ts)) low (no_end text t.start t.end t.kind h)

operand-need : (text : List ℕ) (start stop : ℕ) (k : TokenKind) (at : Place) (st : Stack) → IsOperandKind k → ((s : State) × (want (lexeme text start stop k) at st ≡ On s)) ⊎ ((s : State) × (need : ℕ) × (want (lexeme text start stop k) at st ≡ Deep s need))
operand-need text start stop (token_kind.Number n) at st h = inl (_, refl)
operand-need text start stop token_kind.Name at st h = inl (_, refl)
operand-need text start stop (token_kind.Keyword word.True) at st h = inl (_, refl)
operand-need text start stop (token_kind.Keyword word.False) at st h = inl (_, refl)
operand-need text start stop (token_kind.Keyword word.Null) at st h = inl (_, refl)
operand-need text start stop (token_kind.Keyword word.This) at st h = inl (_, refl)
operand-need text start stop (token_kind.Keyword word.New) at st h = inr (_, _, refl)
operand-need text start stop (token_kind.Mark sign.OpenParen) at st h = inr (_, _, refl)
operand-need text start stop (token_kind.Mark sign.Minus) at st h = inr (_, _, refl)
operand-need text start stop (token_kind.Mark sign.Bang) at st h = inr (_, _, refl)
operand-need text start stop _ at st h = absurd h

other-need : (text : List ℕ) (start stop : ℕ) (k : TokenKind) (at : Place) (st : Stack) → (IsOperandKind k → ⊥) → want (lexeme text start stop k) at st ≡ No
other-need text start stop (token_kind.Number n) at st h = absurd (h tt)
other-need text start stop token_kind.Name at st h = absurd (h tt)
other-need text start stop (token_kind.Keyword word.True) at st h = absurd (h tt)
other-need text start stop (token_kind.Keyword word.False) at st h = absurd (h tt)
other-need text start stop (token_kind.Keyword word.Null) at st h = absurd (h tt)
other-need text start stop (token_kind.Keyword word.This) at st h = absurd (h tt)
other-need text start stop (token_kind.Keyword word.New) at st h = absurd (h tt)
other-need text start stop (token_kind.Mark sign.OpenParen) at st h = absurd (h tt)
other-need text start stop (token_kind.Mark sign.Minus) at st h = absurd (h tt)
other-need text start stop (token_kind.Mark sign.Bang) at st h = absurd (h tt)
other-need text start stop _ at st h = refl

bracketed-want : (k : Lexeme) (here at : Place) (kind : Named) (front : Statements) (st : Stack) → NotBracketEnd k → bracketed k here at kind front st ≡ raise (levels st + 2) (want k here (Inside Bracket (λ i. Got (Elem at (Var kind) i) (InChain front st)) (InChain front st)))
bracketed-want (Mark sign.CloseBracket) here at kind front st h = absurd h
bracketed-want k here at kind front st h = refl

module _ (text : List ℕ) (at : Place) (kind : Named) (front : Statements) (st : Stack) where
  abbrev within : Stack
  within = Inside Bracket (λ i. Got (Elem at (Var kind) i) (InChain front st)) (InChain front st)

  pub bracket_deep : (t : Token) (ts : List Token) → 64 < levels st + 2 → (t.kind ≡ token_kind.Mark sign.CloseBracket → ⊥) → IsOperandKind t.kind → run 64 (Bracketed at kind front st) (seen text (t ∷ ts)) ≡ Refused TooDeep t.at
  bracket_deep t ts low e h =
      let k = lexeme text t.start t.end t.kind in
      let first = bracketed-want k t.at at kind front st (no_end text t.start t.end t.kind e) in
      elim (operand-need text t.start t.end t.kind t.at within h) [
        | inl w ↦ ap (follow 64 t.at (λ s. run 64 s (seen text ts))) (first ∙ ap (raise (levels st + 2)) w.1)
            ∙ ap (λ v. if v then run 64 w.0 (seen text ts) else Refused TooDeep t.at) (lt-leb (levels st + 2) 64 low)
        | inr w ↦ ap (follow 64 t.at (λ s. run 64 s (seen text ts))) (first ∙ ap (raise (levels st + 2)) w.2)
            ∙ ap (λ v. if v then run 64 w.0 (seen text ts) else Refused TooDeep t.at) (lt-leb (max (levels st + 2) w.1) 64 (omega arith))
      ]

  pub bracket_other : (t : Token) (ts : List Token) → (t.kind ≡ token_kind.Mark sign.CloseBracket → ⊥) → (IsOperandKind t.kind → ⊥) → run 64 (Bracketed at kind front st) (seen text (t ∷ ts)) ≡ Refused Unexpected t.at
  bracket_other t ts e h =
      let k = lexeme text t.start t.end t.kind in
      ap (follow 64 t.at (λ s. run 64 s (seen text ts))) (bracketed-want k t.at at kind front st (no_end text t.start t.end t.kind e) ∙ ap (raise (levels st + 2)) (other-need text t.start t.end t.kind t.at within h))

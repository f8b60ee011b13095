-- Tokens as the grammar sees them: with what they spell, and without where they stand among the bytes.
use Rattle.std.specs.Prelude.{ℕ, ℤ, ◌+◌, ◌-◌, ◌==◌, Bool, true, false, List, [], ◌∷◌, take, drop, if◌then◌else◌}
use Rattle.bc_data.specs.declared.run.Place.{Place}
use Rattle.bc_data.specs.declared.token.Word.{Word}
use Rattle.bc_data.specs.declared.token.Sign.{Sign}
use Rattle.bc_data.specs.declared.token.Token.{Token}
use Rattle.bc_data.specs.declared.token.TokenKind.{TokenKind}
use Rattle.bc_data.specs.declared.token.TokenKind.TheVariants as token_kind

-- A name has its bytes, and a text the bytes that it means.
pub data Lexeme : Type 0 where
  Keyword : (w : Word) → Lexeme
  Name : (spelling : List ℕ) → Lexeme
  Number : (n : ℤ) → Lexeme
  Text : (meaning : List ℕ) → Lexeme
  Mark : (s : Sign) → Lexeme
  End : Lexeme

pub record Seen : Type 0 where
  pub kind : Lexeme
  pub at : Place

-- the bytes from one place to before another
abbrev pub between : List ℕ → ℕ → ℕ → List ℕ
between text start stop = take (stop - start) (drop start text)

-- the byte that `\` and this byte mean: `n` a line feed, `t` a tab, and `"` and `\` themselves
abbrev pub escaped : ℕ → ℕ
escaped c = if c == 110 then 10 else (if c == 116 then 9 else c)

-- what bytes between quotes mean, where the byte before them was a `\` that begins an escape, or not
abbrev pub meaning : Bool → List ℕ → List ℕ
meaning escapes [] = []
meaning true (c ∷ cs) = escaped c ∷ meaning false cs
meaning false (c ∷ cs) = if c == 92 then meaning true cs else c ∷ meaning false cs

abbrev pub lexeme : List ℕ → ℕ → ℕ → TokenKind → Lexeme
lexeme text start stop (token_kind.Keyword w) = Keyword w
lexeme text start stop token_kind.Name = Name (between text start stop)
lexeme text start stop (token_kind.Number n) = Number n
lexeme text start stop token_kind.Text = Text (meaning false (between text (start + 1) (stop - 1)))
lexeme text start stop (token_kind.Mark s) = Mark s
lexeme text start stop token_kind.End = End

abbrev pub seen_token : List ℕ → Token → Seen
seen_token text t = record { kind = lexeme text t.start t.end t.kind; at = t.at }

abbrev pub seen : List ℕ → List Token → List Seen
seen text [] = []
seen text (t ∷ ts) = seen_token text t ∷ seen text ts

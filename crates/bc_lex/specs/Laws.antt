-- What the definition says of every text: it has tokens or a fault, one of the two, and only one.
use Rattle.std.specs.Prelude.{◌≡◌, ℕ, ◌<◌, ◌≤◌, ◌⊎◌, List, [], ◌∷◌, length, slice_index, slice_index_or, slice_range, Some, true}
use Rattle.bc_data.specs.declared.run.Place.{Place}
use Rattle.bc_data.specs.declared.token.Token.{Token}
use Rattle.bc_data.specs.declared.token.TokenKind.{TokenKind}
use Rattle.bc_data.specs.declared.token.TokenKind.TheVariants.{Keyword, Name, Number, Text, Mark, End}
use Rattle.bc_data.specs.declared.token.Word.{Word}
use Rattle.bc_data.specs.Spelling.{word_text, sign_text, number_of}
use Rattle.bc_data.specs.Names.{IsIdentifier}
use Rattle.bc_data.specs.Lexical.{AreTokensOf, HasTokenFault, TokenFault, Lexeme, IsPiece, place_at, token_at}

-- at most one list of tokens
abbrev pub OneList : Type 0
OneList = (text : List ℕ) (a b : List Token) → AreTokensOf text a → AreTokensOf text b → a ≡ b

-- at most one fault, at one place
abbrev pub OneFault : Type 0
OneFault = (text : List ℕ) (a b : TokenFault) (p q : Place) → HasTokenFault text a p → HasTokenFault text b q → (a ≡ b) × (p ≡ q)

-- never both
abbrev pub NotBoth : Type 0
NotBoth = (text : List ℕ) (tokens : List Token) (fault : TokenFault) (at : Place) → AreTokensOf text tokens → HasTokenFault text fault at → ⊥

-- one of the two
abbrev pub TokensOrFault : Type 0
TokensOrFault = (text : List ℕ) → ((tokens : List Token) × AreTokensOf text tokens) ⊎ ((fault : TokenFault) × (at : Place) × HasTokenFault text fault at)

-- From an offset on the tokens stand in order: each is the text's piece at its start, with the place of its start, and
-- begins behind the one before. The last is the end of the text.
abbrev pub InOrder : List ℕ → ℕ → List Token → Type 0
InOrder text from [] = ⊥
InOrder text from (t ∷ []) = (from ≤ length text) × (t ≡ token_at text End (length text) (length text))
InOrder text from (t ∷ ts) = (from ≤ t.start) × IsPiece text t.start (Lexeme t.kind t.end) × (t.at ≡ place_at text t.start) × InOrder text t.end ts

abbrev pub TokensInOrder : Type 0
TokensInOrder = (text : List ℕ) (tokens : List Token) → AreTokensOf text tokens → InOrder text 0 tokens

-- what the bytes of a token are
abbrev pub IsSpelled : TokenKind → List ℕ → Type 0
IsSpelled (Keyword word) bytes = bytes ≡ word_text word
IsSpelled Name bytes = IsIdentifier bytes
IsSpelled (Number n) bytes = number_of bytes ≡ Some n
IsSpelled (Mark mark) bytes = bytes ≡ sign_text mark
IsSpelled Text bytes = slice_index bytes 0 ≡ 34
IsSpelled End bytes = bytes ≡ []

-- each token lies within the text and is spelled by its bytes
pub record IsWithin (text : List ℕ) (t : Token) : Type 0 where
  pub order : t.start ≤ t.end
  pub high : t.end ≤ length text
  pub spelled : IsSpelled t.kind (slice_range text t.start t.end)

abbrev pub TokensWithin : Type 0
TokensWithin = (text : List ℕ) (tokens : List Token) → AreTokensOf text tokens → (k : ℕ) (d : Token) → k < length tokens → IsWithin text (slice_index_or tokens k d)

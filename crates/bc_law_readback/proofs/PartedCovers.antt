-- Tokens that cover parts: where all of the tokens can be spelled, so can those of the parts.
use Rattle.std.proofs.Common.{◌≡◌, List, [], ◌∷◌, ◌++◌, subst}
use Rattle.bc_data.specs.SourceTree.{Sequence, Empty, More}
use Rattle.bc_data.specs.Seen.{Lexeme, Seen, Keyword, Mark, End}
use Rattle.bc_data.specs.Grammar.{token, Fronts, Separated, Listed, Repeated}
use Rattle.bc_data.specs.declared.run.Place.{Place}
use Rattle.bc_data.specs.declared.token.Sign.{Sign}
use Rattle.bc_data.specs.declared.token.Word.{Word}
use Rattle.bc_law_readback.specs.Parts.{Part, Token, LineFeed, tokens_of, IsSpellable, AllSpellable, mark, keyword, space, each_parts, ended_parts, joined_parts}

-- A token that is seen in a text is the end, or it can be spelled.
abbrev pub IsKnown : Lexeme → Type 0
IsKnown End = Unit {0}
IsKnown kind = IsSpellable kind

abbrev pub AllKnown : List Seen → Type 0
AllKnown [] = Unit {0}
AllKnown (t ∷ ts) = IsKnown t.kind × AllKnown ts

-- the tokens before rest, if they are known, are enough to spell those of the parts
pub record Covers (ts : List Seen) (parts : List Part) (rest : List Seen) : Type 0 where
  pub cover : AllKnown ts → AllSpellable (tokens_of parts) × AllKnown rest

pub nothing : {ts : List Seen} → Covers ts [] ts
nothing = record { cover = λ known. (tt, known) }

-- parts without tokens
pub gap : {ts : List Seen} → Covers ts space ts
gap = record { cover = λ known. (tt, known) }

pub line_end : {ts : List Seen} → Covers ts (LineFeed ∷ []) ts
line_end = record { cover = λ known. (tt, known) }

-- a token that stands in the parts
pub taken : (kind : Lexeme) {at : Place} {rest : List Seen} → (IsKnown kind → IsSpellable kind) → Covers (token kind at ∷ rest) (Token kind ∷ []) rest
taken kind h = record { cover = λ known. ((h known.0, tt), known.1) }

pub mark_taken : (s : Sign) {at : Place} {rest : List Seen} → Covers (token (Mark s) at ∷ rest) (mark s) rest
mark_taken s = taken (Mark s) (λ h. h)

pub word_taken : (w : Word) {at : Place} {rest : List Seen} → Covers (token (Keyword w) at ∷ rest) (keyword w) rest
word_taken w = taken (Keyword w) (λ h. h)

spellable_append : (xs ys : List Part) → AllSpellable (tokens_of xs) → AllSpellable (tokens_of ys) → AllSpellable (tokens_of (xs ++ ys))
spellable_append [] ys h k = k
spellable_append (Token kind ∷ xs) ys h k = (h.0, spellable_append xs ys h.1 k)
spellable_append (p ∷ xs) ys h k = spellable_append xs ys h k

-- parts behind parts
pub also : {ts mid rest : List Seen} {xs ys : List Part} → Covers ts xs mid → Covers mid ys rest → Covers ts (xs ++ ys) rest
also {ts} {mid} {rest} {xs} {ys} h k = record { cover = λ known. let a = h.cover known in let b = k.cover a.1 in (spellable_append xs ys a.0 b.0, b.1) }

-- the same tokens, as an equation names them: from the first on, and behind
pub along : {ts us rest : List Seen} {parts : List Part} → ts ≡ us → Covers us parts rest → Covers ts parts rest
along e h = record { cover = λ known. h.cover (subst AllKnown e known) }

pub until : {ts mid rest : List Seen} {parts : List Part} → mid ≡ rest → Covers ts parts mid → Covers ts parts rest
until e h = record { cover = λ known. let a = h.cover known in (a.0, subst AllKnown e a.1) }

-- parts without a token, as a margin
pub record IsBlank (parts : List Part) : Type 0 where
  pub blank : (ts : List Seen) → Covers ts parts ts

-- lists of parts, from what spells their elements
module _ {A : Type 0} (Spells : A → List Seen → List Seen → Type 0) (parts : A → List Part) (covers : (x : A) (ts rest : List Seen) → Spells x ts rest → Covers ts (parts x) rest) where
  pub repeated_covers : (s : Sequence A) (ts rest : List Seen) → Repeated Spells s ts rest → Covers ts (each_parts parts s) rest
  repeated_covers Empty ts rest h = along h nothing
  repeated_covers (More front last) ts rest h = also (repeated_covers front ts h.0 h.1) (covers last h.0 rest h.2)

  module _ (kind : Lexeme) (separator : List Part) (separates : (at : Place) (rest : List Seen) → Covers (token kind at ∷ rest) separator rest) where
    pub fronts_covers : (s : Sequence A) (ts rest : List Seen) → Fronts Spells kind s ts rest → Covers ts (ended_parts parts separator s) rest
    fronts_covers Empty ts rest h = along h nothing
    fronts_covers (More front last) ts rest h = also (also (fronts_covers front ts h.0 h.2) (covers last h.0 (token kind h.1 ∷ rest) h.3)) (separates h.1 rest)

    pub separated_covers : (s : Sequence A) (ts rest : List Seen) → Separated Spells kind s ts rest → Covers ts (joined_parts parts separator s) rest
    separated_covers Empty ts rest h = absurd h
    separated_covers (More front last) ts rest h = also (fronts_covers front ts h.0 h.1) (covers last h.0 rest h.2)

    pub listed_covers : (s : Sequence A) (ts rest : List Seen) → Listed Spells kind s ts rest → Covers ts (joined_parts parts separator s) rest
    listed_covers Empty ts rest h = along h nothing
    listed_covers (More front last) ts rest h = separated_covers (More front last) ts rest h

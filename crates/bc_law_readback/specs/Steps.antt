-- The four steps of the law: its parts are read, are its text, stand apart, and are its tree.
use Rattle.std.specs.Prelude.{◌≡◌, ℕ, List, [], ◌∷◌, ◌++◌}
use Rattle.bc_data.specs.SourceTree.{Sequence, Item}
use Rattle.bc_data.specs.Lexical.{AreTokensOf}
use Rattle.bc_data.specs.Refusal.{IsTreeOf}
use Rattle.bc_data.specs.Seen.{Seen, End, seen}
use Rattle.bc_data.specs.declared.token.Token.{Token}
use Rattle.bc_print.specs.Canonical.{program_text}
use Rattle.bc_print.specs.Laws.{unplaced}
use Rattle.bc_law_readback.specs.Parts.{Part, written, tokens_of, kinds, AreApart, AllSpellable, program_parts}

-- Parts that stand apart, with tokens that can be spelled, are read as these tokens.
abbrev pub PartsAreRead : Type 0
PartsAreRead = (parts : List Part) → AreApart parts → AllSpellable (tokens_of parts) →
    (tokens : List Token) × AreTokensOf (written parts) tokens × (kinds (seen (written parts) tokens) ≡ tokens_of parts ++ End ∷ [])

-- The canonical text of every tree is the text of its parts.
abbrev pub TextIsParts : Type 0
TextIsParts = (items : Sequence Item) → program_text items ≡ written (program_parts items)

-- The parts of a tree that is read from a text stand apart, and its tokens can be spelled.
abbrev pub PartsAreApart : Type 0
PartsAreApart = (n : ℕ) (items : Sequence Item) (source : List ℕ) (tokens : List Token) → AreTokensOf source tokens → IsTreeOf n items (seen source tokens) →
    AreApart (program_parts items) × AllSpellable (tokens_of (program_parts items))

-- Tokens of these kinds, at any places, are a tree that differs in places alone.
abbrev pub KindsAreTree : Type 0
KindsAreTree = (n : ℕ) (items : Sequence Item) (old new : List Seen) → IsTreeOf n items old → kinds new ≡ tokens_of (program_parts items) ++ End ∷ [] →
    (again : Sequence Item) × IsTreeOf n again new × (unplaced again ≡ unplaced items)

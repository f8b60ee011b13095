-- What accepted programs keep.
use Rattle.std.specs.Prelude.{ℕ, List, All}
use Rattle.bc_data.specs.SourceTree.{Sequence, Item}
use Rattle.bc_data.specs.Names.{IsIdentifier}
use Rattle.bc_data.specs.Seen.{Seen, Keyword, Name, Number, Text, Mark, End}
use Rattle.bc_data.specs.Refusal.{IsTreeOf}
use Rattle.bc_data.specs.Typed.{TypedProgram}
use Rattle.bc_data.specs.WellTyped.{IsWellTyped}
use Rattle.bc_types_rules.specs.Walk.{Accepts}

-- a name that a text may spell
abbrev pub IsNamed : Seen → Type 0
IsNamed t = elim t.kind [
  | Keyword w ↦ Unit {0}
  | Name spelling ↦ IsIdentifier spelling
  | Number n ↦ Unit {0}
  | Text meaning ↦ Unit {0}
  | Mark s ↦ Unit {0}
  | End ↦ Unit {0}
]

-- The grammar gives the items to some tokens, as a text has them.
pub record IsGrammatical (items : Sequence Item) : Type 0 where
  pub levels : ℕ
  pub tokens : List Seen
  pub named : All IsNamed tokens
  pub tree : IsTreeOf levels items tokens

-- The program of a tree that the grammar gives to some text is well typed.
abbrev pub AcceptedIsWellTyped : Type 0
AcceptedIsWellTyped = (items : Sequence Item) (P : TypedProgram) → IsGrammatical items → Accepts items P → IsWellTyped P

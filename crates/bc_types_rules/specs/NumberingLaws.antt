-- What the laws of the numbering say.
use Rattle.std.specs.Prelude.{◌≡◌, ◌⊎◌, ◌≤◌, All, ℕ, List, Some, length, slice_get}
use Rattle.bc_types_rules.specs.Got.{Kind, Twice, TooMany}
use Rattle.bc_types_rules.specs.Numbering.{Members, Space, Spaces, number_of}

-- the faults of the walk over names
abbrev pub IsNameFault : Kind → Type 0
IsNameFault kind = (kind ≡ Twice) ⊎ (kind ≡ TooMany)

-- a space of at most so many names, in which the number of each name is the place where it stands
pub record IsSpace (most : ℕ) (space : Space) : Type 0 where
  pub few : length space ≤ most
  pub places : (i : ℕ) (name : List ℕ) → slice_get space i ≡ Some name → number_of space name ≡ Some i

pub record AreMembers (m : Members) : Type 0 where
  pub flags : IsSpace 32 m.flags
  pub fields : IsSpace 256 m.fields
  pub methods : IsSpace 256 m.methods

pub record AreSpaces (s : Spaces) : Type 0 where
  pub classes : IsSpace 256 s.classes
  pub members : length s.members ≡ length s.classes
  pub each_class : All AreMembers s.members
  pub tag_types : IsSpace 64 s.tag_types
  pub tasks : IsSpace 256 s.tasks

-- What holds of each statement of a task's body: none sets a parameter, and a `taskexit` names each parameter once.
use Rattle.std.specs.Prelude.{◌≡◌, ◌≢◌, ◌≤◌, ℕ, List, All, AllPairs}
use Rattle.std.specs.List.{flat_map}
use Rattle.bc_data.specs.declared.program.Change.{Change}
use Rattle.bc_data.specs.declared.program.Change.TheVariants as change
use Rattle.bc_data.specs.Typed.{TypedStatement, Set, If, While, Exit, Block, TypedStatements, Nothing, Then}

-- each statement that holds no others, and each of those that stand inside
abbrev mutual
  pub HoldsIn : (TypedStatement → Type 0) → TypedStatement → Type 0
  HoldsIn Q (If test body other) = HoldsInAll Q body × HoldsInAll Q other
  HoldsIn Q (While at test body) = HoldsInAll Q body
  HoldsIn Q (Block body) = HoldsInAll Q body
  HoldsIn Q s = Q s

  pub HoldsInAll : (TypedStatement → Type 0) → TypedStatements → Type 0
  HoldsInAll Q Nothing = Unit {0}
  HoldsInAll Q (Then front last) = HoldsInAll Q front × HoldsIn Q last

-- a statement that sets no slot, or one behind so many
abbrev pub SetsBehind : ℕ → TypedStatement → Type 0
SetsBehind params (Set slot e) = params ≤ slot
SetsBehind params s = Unit {0}

abbrev pub param_of : Change → ℕ
param_of (change.Flag p f b) = p
param_of (change.Add at p v) = p
param_of (change.Clear p v) = p

-- changes of one parameter
pub record OfOne : Type 0 where
  pub param : ℕ
  pub changes : List Change

abbrev pub IsOfOne : OfOne → Type 0
IsOfOne g = All (λ c. param_of c ≡ g.param) g.changes

-- The changes of each parameter stand together.
pub record AreParted (changes : List Change) (parts : List OfOne) : Type 0 where
  pub all : changes ≡ flat_map (λ g. g.changes) parts
  pub each : All IsOfOne parts
  pub once : AllPairs (λ g h. g.param ≢ h.param) parts

abbrev pub NamesOnce : TypedStatement → Type 0
NamesOnce (Exit changes) = (parts : List OfOne) × AreParted changes parts
NamesOnce s = Unit {0}

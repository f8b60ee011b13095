-- What was appended to a unit.
use Rattle.std.specs.Prelude.{◌≡◌, ◌<◌, ◌≤◌, ℕ, length}
use Rattle.bc_code.specs.declared.code.Unit.{Unit as CodeUnit}
use Rattle.bc_code.specs.Translation.{Text, text_of, most_instructions}

-- the same instructions and places from p to before q
abbrev pub Agree : Text → Text → ℕ → ℕ → Type 0
Agree T V p q = (j : ℕ) → p ≤ j → j < q → (V.instruction j ≡ T.instruction j) × (V.place j ≡ T.place j)

-- a unit with a place for each instruction, and not too many
pub record IsGrowing (u : CodeUnit) : Type 0 where
  pub places : length u.places ≡ length u.code
  pub short : length u.code ≤ most_instructions

-- What stands behind the old instructions now, up to q of their end, is P there, and the old ones stayed.
pub record Emitted (P : Text → ℕ → Type 0) (q : ℕ → ℕ) (old new : CodeUnit) : Type 0 where
  pub grows : IsGrowing new
  pub long : length new.code ≡ q (length old.code)
  pub same : Agree (text_of old) (text_of new) 0 (length old.code)
  pub has : P (text_of new) (length old.code)
  pub locals : new.locals ≡ old.locals
  pub tags : new.tags ≡ old.tags

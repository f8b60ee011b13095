-- What is appended to the units of a program.
use Rattle.std.specs.Prelude.{◌≡◌, ◌+◌, ℕ, length, List, Option, Some, slice_get, take}
use Rattle.bc_data.specs.Typed.{TypedClass, TypedMethod}
use Rattle.bc_code.specs.declared.code.Unit.{Unit as CodeUnit}
use Rattle.bc_code.specs.declared.code.ClassCode.{ClassCode}
use Rattle.bc_code.specs.Translation.{IsClassCode, IsMakerCode, makers, units_in}

-- the old units stand where they stood
abbrev pub StillThere : List CodeUnit → List CodeUnit → Type 0
StillThere old new = (n : ℕ) (u : CodeUnit) → slice_get old n ≡ Some u → slice_get new n ≡ Some u

-- the unit of each stands behind the old ones, in order
pub record Appended {A : Type 0} (R : A → CodeUnit → Type 0) (xs : List A) (old new : List CodeUnit) : Type 0 where
  pub long : length new ≡ length old + length xs
  pub same : StillThere old new
  pub each : (n : ℕ) (x : A) → slice_get xs n ≡ Some x → (u : CodeUnit) × (slice_get new (length old + n) ≡ Some u) × R x u

-- the constructor's unit stands behind the old ones
pub record HasMaker (K : List TypedClass) (m : Option TypedMethod) (old new : List CodeUnit) (number : Option ℕ) : Type 0 where
  pub long : length new ≡ length old + makers m
  pub same : StillThere old new
  pub is : IsMakerCode K new (length old) m number

-- the units of a class stand behind the old ones
pub record HasClass (K : List TypedClass) (k : TypedClass) (old new : List CodeUnit) (d : ClassCode) : Type 0 where
  pub long : length new ≡ length old + (makers k.maker + length k.methods)
  pub same : StillThere old new
  pub is : IsClassCode K new (length old) k d

-- the units of these classes stand behind the old ones, one class behind the other
pub record HasClasses (K ks : List TypedClass) (old new : List CodeUnit) (ds : List ClassCode) : Type 0 where
  pub long : length new ≡ length old + units_in ks
  pub same : StillThere old new
  pub codes : length ds ≡ length ks
  pub each : (c : ℕ) (k : TypedClass) (d : ClassCode) → slice_get ks c ≡ Some k → slice_get ds c ≡ Some d → IsClassCode K new (length old + units_in (take c ks)) k d

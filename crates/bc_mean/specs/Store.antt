-- Stores: the one at the start, and those that fit a program.
use Rattle.std.specs.Prelude.{◌≡◌, ◌≢◌, ℕ, pos, ◌<◌, ◌≤◌, ◌^◌, List, [], ◌∷◌, length, map, sum_by, slice_get, Some, All, AllPairs, FitsSigned}
use Rattle.std.specs.Int.{w32}
use Rattle.bc_data.specs.Limits.{longest_array, most_cells, most_instances, most_objects, most_output}
use Rattle.bc_data.specs.Typed.{TypedProgram, TypedClass}
use Rattle.bc_data.specs.declared.program.Field.{Field}
use Rattle.bc_data.specs.declared.program.Shape.{Shape}
use Rattle.bc_data.specs.declared.program.Shape.TheVariants as shape
use Rattle.bc_data.specs.declared.run.Value.{Value}
use Rattle.bc_data.specs.declared.run.Value.TheVariants as value
use Rattle.bc_data.specs.declared.run.TagRef.{TagRef}
use Rattle.bc_data.specs.declared.run.TagRef.TheVariants as tag
use Rattle.bc_data.specs.declared.run.Kind.{Kind}
use Rattle.bc_data.specs.declared.run.Kind.TheVariants as kind
use Rattle.bc_data.specs.declared.run.Body.{Body}
use Rattle.bc_mean.specs.declared.plain.Plain.{Plain}

-- Object 0 is the startup object: its one flag is set, and its one field names object 1.
abbrev pub startup_object : Body
startup_object = record { kind = kind.Class 0; cells = value.Old 1 ∷ []; flags = 1; tags = [] }

-- Object 1 is the array of the input's bytes.
abbrev pub input_array : List ℕ → Body
input_array input = record { kind = kind.Ints; cells = map (λ b. value.Int (pos b)) input; flags = 0; tags = [] }

abbrev pub start_store : List ℕ → Plain
start_store input = record { bodies = startup_object ∷ input_array input ∷ []; tags = []; output = [] }

-- the cells of all these bodies together
abbrev pub cells_in : List Body → ℕ
cells_in bodies = sum_by (λ b. length b.cells) bodies

-- a number in the store is that of an object of this kind
abbrev pub IsOfKind : Plain → Kind → ℕ → Type 0
IsOfKind S k id = (b : Body) × (slice_get S.bodies id ≡ Some b) × (b.kind ≡ k)

-- null, or an object of this kind
abbrev pub IsReference : Plain → Kind → Value → Type 0
IsReference S k value.Null = Unit {0}
IsReference S k (value.Old id) = IsOfKind S k id
IsReference S k (value.New id) = ⊥
IsReference S k (value.Int n) = ⊥
IsReference S k (value.Bool b) = ⊥

-- a number of 32 bits in two's complement
abbrev pub IsInt : Value → Type 0
IsInt (value.Int n) = FitsSigned w32 n
IsInt _ = ⊥

abbrev pub IsBool : Value → Type 0
IsBool (value.Bool b) = Unit {0}
IsBool _ = ⊥

-- a value of this shape in a store, where every reference is to an object that is there
abbrev pub HasShape : Plain → Shape → Value → Type 0
HasShape S shape.Int v = IsInt v
HasShape S shape.Bool v = IsBool v
HasShape S shape.Null v = v ≡ value.Null
HasShape S (shape.Class c) v = IsReference S (kind.Class c) v
HasShape S shape.Ints v = IsReference S kind.Ints v
HasShape S shape.Bools v = IsReference S kind.Bools v
HasShape S (shape.Objects c) v = IsReference S (kind.Objects c) v

-- one cell for each field, of its shape
abbrev pub HaveShapes : Plain → List Field → List Value → Type 0
HaveShapes S [] [] = Unit {0}
HaveShapes S (f ∷ fs) (v ∷ vs) = HasShape S f.shape v × HaveShapes S fs vs
HaveShapes S [] (v ∷ vs) = ⊥
HaveShapes S (f ∷ fs) [] = ⊥

-- an instance that is there
abbrev pub IsPresentTag : Plain → TagRef → Type 0
IsPresentTag S (tag.Old n) = n < length S.tags
IsPresentTag S (tag.New n) = ⊥

pub record IsObject (P : TypedProgram) (S : Plain) (c : ℕ) (b : Body) : Type 0 where
  pub class : TypedClass
  pub declared : slice_get P.classes c ≡ Some class
  pub cells : HaveShapes S class.fields b.cells
  pub flags : b.flags < 2 ^ length class.flags
  pub few_tags : length b.tags ≤ 16
  pub present_tags : All (IsPresentTag S) b.tags
  pub different_tags : AllPairs (λ s t. s ≢ t) b.tags

pub record IsArray (S : Plain) (element : Shape) (b : Body) : Type 0 where
  pub cells : All (HasShape S element) b.cells
  pub short : length b.cells ≤ longest_array
  pub flags : b.flags ≡ 0
  pub tags : b.tags ≡ []

abbrev pub FitsAs : TypedProgram → Plain → Kind → Body → Type 0
FitsAs P S (kind.Class c) b = IsObject P S c b
FitsAs P S kind.Ints b = IsArray S shape.Int b
FitsAs P S kind.Bools b = IsArray S shape.Bool b
FitsAs P S (kind.Objects c) b = (c < length P.classes) × IsArray S (shape.Class c) b

-- a store that fits a program, and keeps the limits
pub record Fits (P : TypedProgram) (S : Plain) : Type 0 where
  pub bodies : All (λ b. FitsAs P S b.kind b) S.bodies
  pub types : All (λ t. t < length P.tag_types) S.tags
  pub objects : length S.bodies ≤ most_objects
  pub cells : cells_in S.bodies ≤ most_cells
  pub instances : length S.tags ≤ most_instances
  pub output : length S.output ≤ most_output

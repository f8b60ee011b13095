-- Values, bodies and works that fit a program while an invocation runs.
use Rattle.std.specs.Prelude.{◌≡◌, ◌≢◌, ℕ, ◌<◌, ◌≤◌, ◌^◌, List, [], ◌∷◌, length, map, slice_get, Some, All, AllPairs}
use Rattle.bc_data.specs.declared.program.Field.{Field}
use Rattle.bc_data.specs.declared.program.Shape.{Shape}
use Rattle.bc_data.specs.declared.program.Shape.TheVariants as shape
use Rattle.bc_data.specs.declared.run.Body.{Body}
use Rattle.bc_data.specs.declared.run.Kind.{Kind}
use Rattle.bc_data.specs.declared.run.Kind.TheVariants as kind
use Rattle.bc_data.specs.declared.run.TagRef.{TagRef}
use Rattle.bc_data.specs.declared.run.TagRef.TheVariants as tag
use Rattle.bc_data.specs.declared.run.Value.{Value}
use Rattle.bc_data.specs.declared.run.Value.TheVariants as value
use Rattle.bc_data.specs.Typed.{TypedClass, TypedProgram}
use Rattle.bc_mean.specs.declared.plain.Plain.{Plain}
use Rattle.bc_mean.specs.Store.{IsBool, IsInt, cells_in}
use Rattle.bc_mean.specs.Work.{Work, Got, Gives, Stops, Faulted, Missing, Wrong, newest}

-- a body of this kind stands at this place
abbrev pub IsKindAt : List Body → Kind → ℕ → Type 0
IsKindAt bodies k n = (b : Body) × (slice_get bodies n ≡ Some b) × (b.kind ≡ k)

-- null, or an object of this kind: one of the store, or one that the invocation made
abbrev pub Refers : Plain → Work → Kind → Value → Type 0
Refers S w k value.Null = Unit {0}
Refers S w k (value.Old id) = IsKindAt S.bodies k id
Refers S w k (value.New n) = IsKindAt w.made k n
Refers S w k (value.Int n) = ⊥
Refers S w k (value.Bool b) = ⊥

-- a value of this shape
abbrev pub Shaped : Plain → Work → Shape → Value → Type 0
Shaped S w shape.Int v = IsInt v
Shaped S w shape.Bool v = IsBool v
Shaped S w shape.Null v = v ≡ value.Null
Shaped S w (shape.Class c) v = Refers S w (kind.Class c) v
Shaped S w shape.Ints v = Refers S w kind.Ints v
Shaped S w shape.Bools v = Refers S w kind.Bools v
Shaped S w (shape.Objects c) v = Refers S w (kind.Objects c) v

-- one value for each shape
abbrev pub Fill : Plain → Work → List Shape → List Value → Type 0
Fill S w [] [] = Unit {0}
Fill S w (sh ∷ shs) (v ∷ vs) = Shaped S w sh v × Fill S w shs vs
Fill S w [] (v ∷ vs) = ⊥
Fill S w (sh ∷ shs) [] = ⊥

-- an instance of the store, or one that the invocation made
abbrev pub IsPresent : Plain → Work → TagRef → Type 0
IsPresent S w (tag.Old n) = n < length S.tags
IsPresent S w (tag.New n) = n < length w.instances

abbrev pub field_shapes : TypedClass → List Shape
field_shapes k = map (λ (x : Field). x.shape) k.fields

pub record FitsObject (K : List TypedClass) (S : Plain) (w : Work) (c : ℕ) (b : Body) : Type 0 where
  pub class : TypedClass
  pub declared : slice_get K c ≡ Some class
  pub cells : Fill S w (field_shapes class) b.cells
  pub flags : b.flags < 2 ^ length class.flags
  pub few_tags : length b.tags ≤ 16
  pub present_tags : All (IsPresent S w) b.tags
  pub different_tags : AllPairs (λ s t. s ≢ t) b.tags

pub record FitsArray (S : Plain) (w : Work) (element : Shape) (b : Body) : Type 0 where
  pub cells : All (Shaped S w element) b.cells
  pub short : length b.cells ≤ 65536
  pub flags : b.flags ≡ 0
  pub tags : b.tags ≡ []

abbrev pub FitsBody : List TypedClass → Plain → Work → Kind → Body → Type 0
FitsBody K S w (kind.Class c) b = FitsObject K S w c b
FitsBody K S w kind.Ints b = FitsArray S w shape.Int b
FitsBody K S w kind.Bools b = FitsArray S w shape.Bool b
FitsBody K S w (kind.Objects c) b = (c < length K) × FitsArray S w (shape.Class c) b

-- a body that may take the place of another: it fits, and has its kind and as many cells
pub record IsVersion (K : List TypedClass) (S : Plain) (w : Work) (b : Body) (c : Body) : Type 0 where
  pub kind : c.kind ≡ b.kind
  pub size : length c.cells ≡ length b.cells
  pub fits : FitsBody K S w b.kind c

-- what an invocation may make and print
pub record IsWithinLimits (w : Work) : Type 0 where
  pub objects : length w.made ≤ 65536
  pub cells : cells_in w.made ≤ 4194304
  pub instances : length w.instances ≤ 65536
  pub text : length w.text ≤ 65536

-- The newest copy of each object of the store fits, and so does each new object. Each new instance has a type.
pub record FitsWork (P : TypedProgram) (S : Plain) (w : Work) : Type 0 where
  pub changed : (id : ℕ) (b : Body) → slice_get S.bodies id ≡ Some b → IsVersion P.classes S w b (newest w.changed id b)
  pub made : (n : ℕ) (b : Body) → slice_get w.made n ≡ Some b → FitsBody P.classes S w b.kind b
  pub instances : All (λ t. t < length P.tag_types) w.instances
  pub limits : IsWithinLimits w

-- What a work made is there in another: objects of the same kinds, and instances.
pub record Grows (w : Work) (v : Work) : Type 0 where
  pub made : (k : Kind) (n : ℕ) → IsKindAt w.made k n → IsKindAt v.made k n
  pub instances : length w.instances ≤ length v.instances

-- A work that comes later fits too, and has no more turns.
pub record Follows (P : TypedProgram) (S : Plain) (w : Work) (v : Work) : Type 0 where
  pub fits : FitsWork P S v
  pub grows : Grows w v
  pub turns : v.turns ≤ w.turns

-- a work that fits, with at most so many turns left
pub record Ready (P : TypedProgram) (S : Plain) (n : ℕ) (w : Work) : Type 0 where
  pub fits : FitsWork P S w
  pub turns : w.turns ≤ n

-- Something comes to a value with this property, or to a fault. Nothing is missing or wrong.
abbrev pub IsWell : {A : Type 0} → (A → Work → Type 0) → Got A → Type 0
IsWell Q (Gives x w) = Q x w
IsWell Q (Stops (Faulted f) w) = Unit {0}
IsWell Q (Stops (Missing id) w) = ⊥
IsWell Q (Stops Wrong w) = ⊥

-- From a work on, something comes to a later work and a value with this property there, or to a fault.
pub record Well {A : Type 0} (P : TypedProgram) (S : Plain) (w : Work) (Q : Work → A → Type 0) (g : Got A) : Type 0 where
  pub well : IsWell (λ x v. Follows P S w v × Q v x) g

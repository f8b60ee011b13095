-- What is set where a statement stands: the slots and tag variables of the names in scope.
use Rattle.std.proofs.Common.{◌≡◌, ℕ, ◌+◌, ◌<◌, ◌≤◌, List, [], ◌∷◌, ◌++◌, Option, Some, None, slice_get}
use Rattle.std.specs.List.{filter_map, AllByRecursion}
use Rattle.bc_data.specs.declared.program.Shape.TheVariants as shape
use Rattle.bc_data.specs.Typed.{TypedClass}
use Rattle.bc_data.specs.TypedBodies.{AssignedSlot, Assigned, Around, InMethod, InTask, Setting}
use Rattle.bc_types_rules.specs.Context.{Context, Meaning, SlotIs, ParameterIs, TagIs, Scope}

abbrev pub slot_in : Meaning → Option AssignedSlot
slot_in (SlotIs slot sh) = Some (record { slot = slot; shape = sh })
slot_in (ParameterIs slot class) = Some (record { slot = slot; shape = shape.Class class })
slot_in (TagIs variable tag_type) = None

abbrev pub variable_in : Meaning → Option ℕ
variable_in (SlotIs slot sh) = None
variable_in (ParameterIs slot class) = None
variable_in (TagIs variable tag_type) = Some variable

-- slot 0 of a method is `this`
abbrev pub this_slot : Option ℕ → List AssignedSlot
this_slot None = []
this_slot (Some me) = record { slot = 0; shape = shape.Class me } ∷ []

abbrev pub assigned_in : Option ℕ → Scope → Assigned
assigned_in me s = record {
  slots = this_slot me ++ filter_map (λ l. slot_in l.meaning) s.known;
  tags = filter_map (λ l. variable_in l.meaning) s.known;
}

-- the slots of a body that aren't declared by name
abbrev pub unnamed : Option ℕ → ℕ
unnamed None = 0
unnamed (Some me) = 1

-- A name in scope has a slot or a tag variable that has been used, and a parameter its place among the parameters.
abbrev pub IsUsed : List ℕ → Scope → Meaning → Type 0
IsUsed params s (SlotIs slot sh) = slot < s.slots
IsUsed params s (ParameterIs slot class) = (slot < s.slots) × (slice_get params slot ≡ Some class)
IsUsed params s (TagIs variable tag_type) = variable < s.tags

-- Slots are in order, so that no two are the same.
abbrev pub Ascending : List AssignedSlot → Type 0
Ascending [] = Unit {0}
Ascending (x ∷ xs) = AllByRecursion (λ (y : AssignedSlot). x.slot < y.slot) xs × Ascending xs

pub record IsScope (me : Option ℕ) (params : List ℕ) (s : Scope) : Type 0 where
  pub known : AllByRecursion (λ l. IsUsed params s l.meaning) s.known
  -- the slot of `this` is used, and no name in scope has it
  pub above : AllByRecursion (λ (l : AssignedSlot). unnamed me ≤ l.slot) (filter_map (λ l. slot_in l.meaning) s.known)
  pub apart : Ascending (filter_map (λ l. slot_in l.meaning) s.known)
  pub count : s.slots + s.tags ≡ unnamed me + s.count
  pub this : unnamed me ≤ s.slots
  pub few : s.count ≤ 256

abbrev pub around_in : Context → List ℕ → Around
around_in G params = elim G.me [ Some me ↦ InMethod G.result | None ↦ InTask params ]

-- so many tag types, slots and tag variables
abbrev pub setting_in : List TypedClass → ℕ → Context → List ℕ → ℕ → ℕ → Setting
setting_in K tag_types G params locals tags = record { classes = K; tag_types = tag_types; around = around_in G params; locals = locals; tags = tags }

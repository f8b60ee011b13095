-- Which objects can stand at a place, where it shares a tag variable with another.
use Rattle.std.specs.Prelude.{◌≡◌, ℕ, true, List, slice_get, Some}
use Rattle.bc_params_sets.specs.declared.place.Place.{Place}
use Rattle.bc_params_sets.specs.declared.place.TaskSets.{TaskSets}
use Rattle.bc_params_sets.specs.declared.tag_index.Binding.{Binding}
use Rattle.bc_params_sets.specs.Members.{has}
use Rattle.bc_params_sets.specs.Bindings.{is_bound}
use Rattle.bc_params_sets.specs.Kept.{takes_by}

-- both places bind a variable of this type
abbrev pub Shares : TaskSets → Place → Place → ℕ → Type 0
Shares t p q type = (b : ℕ) × (has p.binds b ≡ true) × (has q.binds b ≡ true) × (slice_get t.variables b ≡ Some type)

-- each member stays
abbrev pub Keeps : List ℕ → List ℕ → Type 0
Keeps old new = (x : ℕ) → has old x ≡ true → has new x ≡ true

-- each object that carries an instance of the type which the object carries
abbrev pub HasNear : List Binding → ℕ → ℕ → List ℕ → Type 0
HasNear bound object type xs =
    (n x : ℕ)
    → is_bound bound (record { object = object; tag_type = type; instance = n }) ≡ true
    → is_bound bound (record { object = x; tag_type = type; instance = n }) ≡ true
    → has xs x ≡ true

-- each object that can stand at the first place where the object stands at the second
abbrev pub HasTied : TaskSets → List Binding → Place → Place → ℕ → List ℕ → Type 0
HasTied t bound p q object xs =
    (instances : List ℕ) (x : ℕ) → takes_by t bound instances q object ≡ true → takes_by t bound instances p x ≡ true → has xs x ≡ true

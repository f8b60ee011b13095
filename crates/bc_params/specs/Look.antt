-- Bodies looked up by number, one of them replaced, and the instances that a body carries.
use Rattle.std.specs.Prelude.{◌≡◌, ℕ, Bool, if◌then◌else◌, ◌&&◌, ◌==◌, nat_lt, List, [], slice_get, Option, Some, None}
use Rattle.std.specs.List.{list_any}
use Rattle.bc_data.specs.declared.run.TagRef.{TagRef}
use Rattle.bc_data.specs.declared.run.Kind.{Kind}
use Rattle.bc_data.specs.declared.run.Kind.TheVariants as kind
use Rattle.bc_data.specs.declared.run.Body.{Body}
use Rattle.bc_mean.specs.Enabled.{is_some_and, is_instance}
use Rattle.bc_params_sets.specs.declared.tag_index.Binding.{Binding}

-- the same bodies, but for one object
abbrev pub put_look : ℕ → Option Body → (ℕ → Option Body) → ℕ → Option Body
put_look id new look x = if x == id then new else look x

-- no body at all
abbrev pub nobody : ℕ → Option Body
nobody x = None

-- the bodies below a number
abbrev pub look_below : ℕ → (ℕ → Option Body) → ℕ → Option Body
look_below n look x = if nat_lt x n then look x else None

-- where both are there, they are of one kind
abbrev pub HaveOneKind : Option Body → Option Body → Type 0
HaveOneKind (Some b) (Some c) = b.kind ≡ c.kind
HaveOneKind (Some b) None = Unit {0}
HaveOneKind None o = Unit {0}

abbrev pub class_of : Kind → Option ℕ
class_of (kind.Class c) = Some c
class_of kind.Ints = None
class_of kind.Bools = None
class_of (kind.Objects c) = None

-- the class of the object, before or after
abbrev pub class_of_either : Option Body → Option Body → Option ℕ
class_of_either (Some b) o = class_of b.kind
class_of_either None (Some b) = class_of b.kind
class_of_either None None = None

abbrev pub tags_in : Option Body → List TagRef
tags_in None = []
tags_in (Some b) = b.tags

-- the binding says that the object carries the instance which this tag is, of the instance's type
abbrev pub is_binding_of : List ℕ → ℕ → Binding → TagRef → Bool
is_binding_of types id c t = (c.object == id) && is_instance c.instance t && is_some_and (slice_get types c.instance) (λ own. own == c.tag_type)

-- one of these tags does
abbrev pub is_own : List ℕ → ℕ → List TagRef → Binding → Bool
is_own types id tags c = list_any (is_binding_of types id c) tags

-- The objects that changes reshape, and what it takes to bring parameter sets to the next store and back.
use Rattle.std.specs.Prelude.{◌≡◌, ℕ, ◌+◌, ◌<◌, ◌≤◌, Bool, true, not, if◌then◌else◌, ◌&&◌, ◌==◌, List, [], ◌∷◌, ◌++◌, length, map, sum_by, slice_get, option_map, Option, Some, None, All, IfSome}
use Rattle.std.specs.List.{range_with_len}
use Rattle.std.specs.Cmp.Lexicographic.{pointwise}
use Rattle.bc_data.specs.Typed.{TypedProgram}
use Rattle.bc_data.specs.declared.run.Body.{Body}
use Rattle.bc_data.specs.declared.run.Written.{Written}
use Rattle.bc_data.specs.declared.run.Changes.{Changes}
use Rattle.bc_mean.specs.declared.plain.Plain.{Plain}
use Rattle.bc_mean.specs.Changes.{same_kind}
use Rattle.bc_mean.specs.Values.{same_tag}
use Rattle.bc_params.specs.Look.{class_of, tags_in}
use Rattle.bc_params.specs.Places.{Spare, params_of}
use Rattle.bc_book_reshaped.specs.declared.reshaped.Reshaped.{Reshaped}
use Rattle.bc_book_reshaped.specs.declared.reshaped.Reshaped.TheVariants as object

-- the number of the object
abbrev pub id_of : Reshaped → ℕ
id_of (object.Written id at) = id
id_of (object.Made id at) = id

-- the body that it gets
abbrev pub after_of : Changes → Reshaped → Option Body
after_of c (object.Written id at) = option_map (λ (w : Written). w.body) (slice_get c.bodies at)
after_of c (object.Made id at) = slice_get c.made at

-- the body that it has in the store, if it is there
abbrev pub before_of : Plain → Reshaped → Option Body
before_of S m = slice_get S.bodies (id_of m)

-- a written one is in the store, and a new one is behind its objects
abbrev pub IsThere : Plain → Reshaped → Type 0
IsThere S (object.Written id at) = id < length S.bodies
IsThere S (object.Made id at) = length S.bodies ≤ id

-- the same but for the cells
abbrev pub same_shape : Body → Body → Bool
same_shape a b = same_kind a.kind b.kind && (a.flags == b.flags) && pointwise same_tag a.tags b.tags

abbrev pub differs_from : Option Body → Body → Bool
differs_from None b = true
differs_from (Some a) b = not (same_shape a b)

-- what is written differs from the object's body in kind, flags or tags
abbrev pub is_reshaped : Plain → Written → Bool
is_reshaped S w = differs_from (slice_get S.bodies w.id) w.body

-- those of the written ones that are reshaped, where the first has this place
abbrev pub written_reshaped : Plain → ℕ → List Written → List Reshaped
written_reshaped S at [] = []
written_reshaped S at (w ∷ ws) = if is_reshaped S w then object.Written w.id at ∷ written_reshaped S (at + 1) ws else written_reshaped S (at + 1) ws

-- so many new objects behind those of the store
abbrev pub made_reshaped : ℕ → ℕ → List Reshaped
made_reshaped objects made = map (λ at. object.Made (objects + at) at) (range_with_len 0 made)

-- The objects that changes reshape, ascending. An object of which only cells differ is not among them.
abbrev pub reshaped_in : Plain → Changes → List Reshaped
reshaped_in S c = written_reshaped S 0 c.bodies ++ made_reshaped (length S.bodies) (length c.made)

-- no object changes its kind
abbrev pub KindsStay : Plain → Changes → Type 0
KindsStay S c = All (λ w. IfSome (slice_get S.bodies w.id) (λ b. w.body.kind ≡ b.kind)) c.bodies

-- how often guards are tested at most: for each body that changes or is new once for each parameter of its class
abbrev pub guard_tests : TypedProgram → Changes → ℕ
guard_tests P c = sum_by (λ w. params_of (class_of w.body.kind) P.tasks) c.bodies + sum_by (λ b. params_of (class_of b.kind) P.tasks) c.made

-- memory to put back the bodies that the reshaped objects have in the store
pub record CanGoBack (s : Spare) (S : Plain) (c : Changes) : Type 0 where
  pub updates : length (reshaped_in S c) ≤ s.updates
  pub bindings : sum_by (λ m. length (tags_in (before_of S m))) (reshaped_in S c) ≤ s.bindings

-- When changes can be applied to a store, and the steps of that.
use Rattle.std.specs.Prelude.{ℕ, ◌+◌, ◌<◌, ◌≤◌, List, [], ◌∷◌, length, slice_set, All}
use Rattle.bc_data.specs.Limits.{most_instances, most_objects}
use Rattle.bc_data.specs.declared.run.Value.{Value}
use Rattle.bc_data.specs.declared.run.Value.TheVariants as value
use Rattle.bc_data.specs.declared.run.TagRef.{TagRef}
use Rattle.bc_data.specs.declared.run.TagRef.TheVariants as tag
use Rattle.bc_data.specs.declared.run.Body.{Body}
use Rattle.bc_data.specs.declared.run.Written.{Written}
use Rattle.bc_data.specs.declared.run.Changes.{Changes}
use Rattle.bc_mean.specs.declared.plain.Plain.{Plain}
use Rattle.bc_mean.specs.Changes.{body_in}

-- a new object is one of so many
abbrev pub IsMadeValue : ℕ → Value → Type 0
IsMadeValue made (value.New n) = n < made
IsMadeValue made (value.Int n) = Unit {0}
IsMadeValue made (value.Bool b) = Unit {0}
IsMadeValue made value.Null = Unit {0}
IsMadeValue made (value.Old n) = Unit {0}

abbrev pub IsMadeTag : ℕ → TagRef → Type 0
IsMadeTag made (tag.New n) = n < made
IsMadeTag made (tag.Old n) = Unit {0}

-- the new objects and instances that a body names are among those that the changes make
pub record IsMadeBody (c : Changes) (b : Body) : Type 0 where
  pub cells : All (IsMadeValue (length c.made)) b.cells
  pub tags : All (IsMadeTag (length c.tags)) b.tags

-- The changes come of a run in the store that had room: the objects that they change are there, the new ones that they
-- name are made, and the numbers of objects and instances fit.
pub record HasRoom (S : Plain) (c : Changes) : Type 0 where
  pub objects : length S.bodies + length c.made ≤ most_objects
  pub instances : length S.tags + length c.tags ≤ most_instances
  pub present : All (λ w. w.id < length S.bodies) c.bodies
  pub changed : All (λ w. IsMadeBody c w.body) c.bodies
  pub made : All (IsMadeBody c) c.made

abbrev pub written_in : Plain → Written → Written
written_in S w = record { id = w.id; body = body_in S w.body }

-- each body in its object's place
abbrev pub placed : List Written → List Body → List Body
placed [] bodies = bodies
placed (w ∷ ws) bodies = placed ws (slice_set bodies w.id w.body)

-- Room in a store: the sums that have limits, and the invocations that want more.
use Rattle.std.specs.Prelude.{◌≡◌, ◌+◌, ◌<◌, ◌≤◌, length}
use Rattle.bc_data.specs.Limits.{most_cells, most_instances, most_objects, most_output}
use Rattle.bc_data.specs.Typed.{TypedProgram}
use Rattle.bc_data.specs.declared.run.Invocation.{Invocation}
use Rattle.bc_data.specs.declared.run.Changes.{Changes}
use Rattle.bc_data.specs.declared.run.FaultKind.{FaultKind}
use Rattle.bc_data.specs.declared.run.FaultKind.TheVariants as fault
use Rattle.bc_data.specs.declared.run.Ran.TheVariants as ran
use Rattle.bc_mean.specs.declared.plain.Plain.{Plain}
use Rattle.bc_mean.specs.Store.{cells_in}
use Rattle.bc_mean.specs.Outcome.{body_outcome}

-- a store whose sums keep the limits
pub record KeepsLimits (S : Plain) : Type 0 where
  pub objects : length S.bodies ≤ most_objects
  pub cells : cells_in S.bodies ≤ most_cells
  pub instances : length S.tags ≤ most_instances
  pub output : length S.output ≤ most_output

-- the sum of this kind passes its limit where these changes come into the store
abbrev pub Passes : Plain → Changes → FaultKind → Type 0
Passes S c fault.Objects = most_objects < length S.bodies + length c.made
Passes S c fault.Cells = most_cells < cells_in S.bodies + cells_in c.made
Passes S c fault.Tags = most_instances < length S.tags + length c.tags
Passes S c fault.Output = most_output < length S.output + length c.text
Passes S c _ = ⊥

-- the invocation's body exits, and this sum has no room for what it changes
pub record LacksRoom (P : TypedProgram) (S : Plain) (v : Invocation) (kind : FaultKind) : Type 0 where
  pub changes : Changes
  pub exits : (body_outcome P S v).ran ≡ ran.Commit changes
  pub full : Passes S changes kind

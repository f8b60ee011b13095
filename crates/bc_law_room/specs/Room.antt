-- Room: the four sums that have limits, and failures.
use Rattle.std.specs.Prelude.{◌≡◌, ◌+◌, ◌<◌, ◌≤◌, Bool, true, false, length}
use Rattle.bc_data.specs.Typed.{TypedProgram}
use Rattle.bc_data.specs.declared.run.Changes.{Changes}
use Rattle.bc_data.specs.declared.run.FaultKind.{FaultKind}
use Rattle.bc_data.specs.declared.run.FaultKind.TheVariants as fault
use Rattle.bc_data.specs.declared.run.Ran.TheVariants as ran
use Rattle.bc_mean.specs.declared.plain.Plain.{Plain}
use Rattle.bc_mean.specs.Enabled.{IsEnabled}
use Rattle.bc_mean.specs.Outcome.{outcome}
use Rattle.bc_mean.specs.Serial.{Failed}
use Rattle.bc_mean.specs.Store.{cells_in}

-- a kind of fault for want of room in the store
abbrev pub is_of_room : FaultKind → Bool
is_of_room fault.Objects = true
is_of_room fault.Cells = true
is_of_room fault.Tags = true
is_of_room fault.Output = true
is_of_room _ = false

-- the sum of this kind passes its limit where these changes come into the store
abbrev pub Passes : Plain → Changes → FaultKind → Type 0
Passes S c fault.Objects = 65536 < length S.bodies + length c.made
Passes S c fault.Cells = 4194304 < cells_in S.bodies + cells_in c.made
Passes S c fault.Tags = 65536 < length S.tags + length c.tags
Passes S c fault.Output = 16777216 < length S.output + length c.text
Passes S c _ = ⊥

-- a store whose sums keep the limits
pub record HasRoom (S : Plain) : Type 0 where
  pub objects : length S.bodies ≤ 65536
  pub cells : cells_in S.bodies ≤ 4194304
  pub instances : length S.tags ≤ 65536
  pub output : length S.output ≤ 16777216

-- the invocation is enabled in the store and faults so there
pub record Fails (P : TypedProgram) (S : Plain) (f : Failed) : Type 0 where
  pub enabled : IsEnabled P S f.v
  pub ran : (outcome P S f.v).ran ≡ ran.Faulted f.fault
  pub touched : (outcome P S f.v).touched ≡ f.touched

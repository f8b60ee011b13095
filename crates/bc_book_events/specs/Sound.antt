-- What holds of the book after each event.
use Rattle.std.specs.Prelude.{◌≡◌, ◌+◌, ◌<◌, ◌≤◌, ◌⊎◌, Bool, true, false, nat_lt, length, All, Option, Some, None}
use Rattle.bc_data.specs.Typed.{TypedProgram}
use Rattle.bc_data.specs.WellTyped.{IsWellTyped}
use Rattle.bc_data.specs.declared.run.Changes.{Changes}
use Rattle.bc_data.specs.declared.run.Fault.{Fault}
use Rattle.bc_data.specs.declared.run.FaultKind.{FaultKind}
use Rattle.bc_data.specs.declared.run.FaultKind.TheVariants as fault
use Rattle.bc_data.specs.declared.run.Invocation.{Invocation}
use Rattle.bc_data.specs.declared.run.Ran.TheVariants as ran
use Rattle.bc_data.specs.declared.run.Stop.{Stop}
use Rattle.bc_data.specs.declared.run.Stop.TheVariants as stop
use Rattle.bc_mean.specs.declared.plain.Plain.{Plain}
use Rattle.bc_mean.specs.Changes.{apply_changes}
use Rattle.bc_mean.specs.Enabled.{IsEnabled}
use Rattle.bc_mean.specs.Outcome.{body_outcome, outcome}
use Rattle.bc_mean.specs.Serial.{Failed, is_crowded, replay}
use Rattle.bc_mean.specs.Sound.{Commits}
use Rattle.bc_mean.specs.Store.{cells_in}
use Rattle.bc_book_events.specs.Book.{BookState, is_at_rest, is_running}
use Rattle.bc_book_events.specs.Exact.{IsExact}
use Rattle.bc_book_events.specs.Named.{IsNamed}

-- the sum of this kind passes its limit where these changes come into the store
abbrev pub passes : Plain → Changes → FaultKind → Bool
passes S c fault.Objects = nat_lt 65536 (length S.bodies + length c.made)
passes S c fault.Cells = nat_lt 4194304 (cells_in S.bodies + cells_in c.made)
passes S c fault.Tags = nat_lt 65536 (length S.tags + length c.tags)
passes S c fault.Output = nat_lt 16777216 (length S.output + length c.text)
passes S c _ = false

-- the invocation's body exits, and this sum has no room for what it changes
pub record LacksRoom (P : TypedProgram) (S : Plain) (v : Invocation) (kind : FaultKind) : Type 0 where
  pub changes : Changes
  pub exits : (body_outcome P S v).ran ≡ ran.Commit changes
  pub full : passes S changes kind ≡ true

-- A failure still stands: its invocation is enabled and faults in this store, having touched the same objects. The
-- fault there is the recorded one, or both are of room at one place, and the recorded sum has no room here either.
pub record StillFails (P : TypedProgram) (S : Plain) (f : Failed) : Type 0 where
  pub enabled : IsEnabled P S f.v
  pub fault : Fault
  pub faults : (outcome P S f.v).ran ≡ ran.Faulted fault
  pub touched : (outcome P S f.v).touched ≡ f.touched
  pub alike : (fault ≡ f.fault) ⊎ ((fault.at ≡ f.fault.at) × LacksRoom P S f.v f.fault.kind)

-- What a stop says: nothing is pending or running; or no commit is left for an invocation that would commit; or one is left,
-- but the invocation would crowd the store. Want of memory says nothing.
abbrev pub StopTells : BookState → Option Stop → Type 0
StopTells b None = Unit {0}
StopTells b (Some stop.End) = is_at_rest b ≡ true
StopTells b (Some (stop.Spent v)) = (length b.history ≡ b.limit) × ((c : Changes) × Commits b.program b.store v c)
StopTells b (Some (stop.Crowded v)) =
    (length b.history < b.limit) × ((c : Changes) × Commits b.program b.store v c × (is_crowded b.program (apply_changes b.store c) ≡ true))
StopTells b (Some stop.Memory) = Unit {0}

-- The program is accepted and the input has bytes. The history is a serial run that leads to the store, which is not
-- crowded, and keeps the limit. The pending list is exact, what workers have names what is there, each failure still
-- stands, and the stop tells the truth.
pub record IsSoundBook (b : BookState) : Type 0 where
  pub typed : IsWellTyped b.program
  pub bytes : All (λ byte. byte < 256) b.input
  pub short : length b.input ≤ 65536
  pub replayed : replay b.program b.input b.history ≡ Some b.store
  pub roomy : is_crowded b.program b.store ≡ false
  pub within : length b.history ≤ b.limit
  pub exact : IsExact b
  pub named : (v : Invocation) → is_running b.running v ≡ true → IsNamed b.program b.store v
  pub failing : All (StillFails b.program b.store) b.failures
  pub stop : StopTells b b.stop

-- What never shrinks, as facts that contracts name.
use Rattle.std.specs.Prelude.{◌≡◌, ◌⊎◌, true, List, slice_get, Some, IsSome}
use Rattle.bc_data.specs.Typed.{TypedProgram}
use Rattle.bc_data.specs.declared.run.Changes.{Changes}
use Rattle.bc_data.specs.declared.run.Fault.{Fault}
use Rattle.bc_data.specs.declared.run.FaultKind.{FaultKind}
use Rattle.bc_data.specs.declared.run.Invocation.{Invocation}
use Rattle.bc_data.specs.declared.run.Ran.TheVariants as ran
use Rattle.bc_mean.specs.declared.plain.Plain.{Plain}
use Rattle.bc_mean.specs.Changes.{apply_changes, fault_of_room}
use Rattle.bc_mean.specs.Enabled.{IsEnabled}
use Rattle.bc_mean.specs.Outcome.{body_outcome, outcome, place_of}
use Rattle.bc_mean.specs.Serial.{Failed, IsFault, replay_from}
use Rattle.bc_law_locality.specs.Laws.{AgreeOn}
use Rattle.bc_law_room.specs.Room.{Fails, HasRoom, Passes, is_of_room}
use Rattle.bc_law_room.specs.Sizes.{KeepsSizes, Outgrows}

-- A commit keeps each object's kind and its number of cells, and all instances and output, whatever the store. So would the
-- exit of a body that has no room.
pub record KeepsKinds : Type 0 where
  pub body : (P : TypedProgram) (S : Plain) (v : Invocation) (c : Changes) → (body_outcome P S v).ran ≡ ran.Commit c → KeepsSizes S c
  pub commit : (P : TypedProgram) (S : Plain) (v : Invocation) (c : Changes) → (outcome P S v).ran ≡ ran.Commit c → KeepsSizes S c

-- A store outgrows those before it in a history, from whichever store the history goes on.
pub record HistoriesGrow : Type 0 where
  pub same : (S : Plain) → Outgrows S S
  pub onward : (S T U : Plain) → Outgrows S T → Outgrows T U → Outgrows S U
  pub history : (P : TypedProgram) (S T : Plain) (history : List Invocation) → replay_from P S history ≡ Some T → Outgrows S T

-- A commit lacks room exactly where one of the four sums passes its limit, and its fault is of such a sum. The store behind a
-- commit has room, whatever the store before.
pub record RoomIsOfSums : Type 0 where
  pub passes : (S : Plain) (c : Changes) (k : FaultKind) → fault_of_room S c ≡ Some k → Passes S c k
  pub lacks : (S : Plain) (c : Changes) (k : FaultKind) → Passes S c k → IsSome (fault_of_room S c)
  pub kinds : (S : Plain) (c : Changes) (k : FaultKind) → Passes S c k → is_of_room k ≡ true
  pub left : (P : TypedProgram) (S : Plain) (v : Invocation) (c : Changes) → (outcome P S v).ran ≡ ran.Commit c → HasRoom (apply_changes S c)

-- the invocation faults for want of room, at its task, and this sum passes its limit
pub record LacksRoom (P : TypedProgram) (S : Plain) (v : Invocation) (c : Changes) : Type 0 where
  pub kind : FaultKind
  pub passes : Passes S c kind
  pub ran : (outcome P S v).ran ≡ ran.Faulted (record { kind = kind; at = place_of (slice_get P.tasks v.task) })

-- Where a history leaves the objects as they were that an invocation touches, its exit is the same, each sum that passed its
-- limit still does, and so it still lacks room. Whatever its fault was, it still faults.
pub record RoomStaysUsed : Type 0 where
  pub sums :
      (P : TypedProgram) (S T : Plain) (history : List Invocation) (v : Invocation) (c : Changes) (k : FaultKind)
      → replay_from P S history ≡ Some T
      → AgreeOn S T (body_outcome P S v).touched
      → (body_outcome P S v).ran ≡ ran.Commit c
      → Passes S c k
      → ((body_outcome P T v).ran ≡ ran.Commit c) × Passes T c k × LacksRoom P T v c
  pub faults :
      (P : TypedProgram) (S T : Plain) (history : List Invocation) (v : Invocation)
      → replay_from P S history ≡ Some T
      → AgreeOn S T (body_outcome P S v).touched
      → IsFault (outcome P S v).ran
      → IsFault (outcome P T v).ran

-- the same fault, or two of room at one place
abbrev pub IsFaultLike : Fault → Fault → Type 0
IsFaultLike f g = (g ≡ f) ⊎ ((is_of_room f.kind ≡ true) × (is_of_room g.kind ≡ true) × (g.at ≡ f.at))

-- A failure stays one where a history leaves the objects that it touched as they were, as long as the invocation is enabled: it
-- touches the same objects, and has the same fault, unless that was one of room, which stays one of room.
abbrev pub FailuresStay : Type 0
FailuresStay =
    (P : TypedProgram) (S T : Plain) (history : List Invocation) (f : Failed)
    → replay_from P S history ≡ Some T
    → Fails P S f
    → IsEnabled P T f.v
    → AgreeOn S T f.touched
    → (g : Fault) × IsFaultLike f.fault g × Fails P T (record f { fault = g })

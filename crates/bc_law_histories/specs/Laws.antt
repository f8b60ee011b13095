-- What holds along each history of a well typed program, as facts that contracts name.
use Rattle.std.specs.Prelude.{◌≡◌, ℕ, ◌<◌, ◌≤◌, List, ◌∷◌, ◌++◌, length, Some, All}
use Rattle.bc_data.specs.Typed.{TypedProgram}
use Rattle.bc_data.specs.WellTyped.{IsWellTyped}
use Rattle.bc_data.specs.declared.run.Body.{Body}
use Rattle.bc_data.specs.declared.run.Invocation.{Invocation}
use Rattle.bc_mean.specs.declared.plain.Plain.{Plain}
use Rattle.bc_mean.specs.Serial.{replay, replay_from}
use Rattle.bc_mean.specs.Store.{Fits, start_store}
use Rattle.bc_law_histories.specs.Histories.{RunsBehind, AreOfTimes}

-- The input has bytes, and no more than an array can have.
abbrev pub StartFits : Type 0
StartFits = (P : TypedProgram) (input : List ℕ) → IsWellTyped P → All (λ b. b < 256) input → length input ≤ 65536 → Fits P (start_store input)

-- A history leads from a store that fits to one that fits. The store at the start is one.
pub record ReplayFits : Type 0 where
  pub from_store :
      (P : TypedProgram) (S T : Plain) (history : List Invocation)
      → IsWellTyped P
      → Fits P S
      → replay_from P S history ≡ Some T
      → Fits P T
  pub from_start :
      (P : TypedProgram) (input : List ℕ) (history : List Invocation) (S : Plain)
      → IsWellTyped P
      → All (λ b. b < 256) input
      → length input ≤ 65536
      → replay P input history ≡ Some S
      → Fits P S

-- No entry of a history is stuck in the store before it.
abbrev pub EntriesRun : Type 0
EntriesRun =
    (P : TypedProgram) (input : List ℕ) (front : List Invocation) (v : Invocation) (back : List Invocation) (S : Plain)
    → IsWellTyped P
    → All (λ b. b < 256) input
    → length input ≤ 65536
    → replay P input (front ++ v ∷ back) ≡ Some S
    → RunsBehind P input front v

-- The last store of a history fits where its objects have bodies that they had before, each of a time of its own.
abbrev pub MixedFits : Type 0
MixedFits =
    (P : TypedProgram) (input : List ℕ) (history : List Invocation) (S : Plain) (bodies : List Body)
    → IsWellTyped P
    → All (λ b. b < 256) input
    → length input ≤ 65536
    → replay P input history ≡ Some S
    → AreOfTimes P input history S bodies
    → Fits P (record S { bodies = bodies })

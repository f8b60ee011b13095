-- What holds of a run of one thread at each of its steps.
use Rattle.std.specs.Prelude.{◌≡◌, ◌≢◌, ℕ, ◌<◌, ◌≤◌, not, ◌&&◌, true, List, [], length, AllPairs, Option, Some, None}
use Rattle.bc_data.specs.Typed.{TypedProgram}
use Rattle.bc_data.specs.declared.run.Invocation.{Invocation}
use Rattle.bc_data.specs.declared.run.Changes.{Changes}
use Rattle.bc_data.specs.declared.run.Ran.TheVariants as ran
use Rattle.bc_data.specs.declared.run.Stop.{Stop}
use Rattle.bc_data.specs.declared.run.Stop.TheVariants as stop
use Rattle.bc_mean.specs.declared.plain.Plain.{Plain}
use Rattle.bc_mean.specs.Enabled.{is_enabled, IsEnabled}
use Rattle.bc_mean.specs.Changes.{apply_changes}
use Rattle.bc_mean.specs.Outcome.{outcome}
use Rattle.bc_mean.specs.Serial.{Course, has_failure, is_crowded, listed, replay}

-- an enabled invocation that commits these changes
pub record Commits (P : TypedProgram) (S : Plain) (v : Invocation) (c : Changes) : Type 0 where
  pub enabled : IsEnabled P S v
  pub commit : (outcome P S v).ran ≡ ran.Commit c

-- What a stop says: nothing is pending; or no commit is left for an invocation that would commit; or one is left, but the
-- invocation would crowd the store.
abbrev pub StopsFor : TypedProgram → ℕ → Course → Option Stop → Type 0
StopsFor P limit r None = Unit {0}
StopsFor P limit r (Some stop.End) = r.pending ≡ []
StopsFor P limit r (Some (stop.Spent v)) = (length r.history ≡ limit) × ((c : Changes) × Commits P r.store v c)
StopsFor P limit r (Some (stop.Crowded v)) =
    (length r.history < limit) × ((c : Changes) × Commits P r.store v c × (is_crowded P (apply_changes r.store c) ≡ true))
StopsFor P limit r (Some stop.Memory) = ⊥

-- The history is a serial run that leads to the store. Pending are, each once, exactly the enabled invocations without a
-- failure, and no invocation has two failures.
pub record IsSound (P : TypedProgram) (input : List ℕ) (limit : ℕ) (r : Course) : Type 0 where
  pub replayed : replay P input r.history ≡ Some r.store
  pub within : length r.history ≤ limit
  pub once : AllPairs (λ v w. v ≢ w) r.pending
  pub pending : (v : Invocation) → listed r.pending v ≡ (is_enabled P r.store v && not (has_failure r.failures v))
  pub failed_once : AllPairs (λ f g. f.v ≢ g.v) r.failures
  pub stop : StopsFor P limit r r.ended

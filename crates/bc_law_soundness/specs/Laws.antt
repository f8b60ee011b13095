-- What holds of each run of an enabled invocation of a well typed program, over a store that fits it.
use Rattle.std.specs.Prelude.{◌≡◌, ℕ, slice_get}
use Rattle.bc_data.specs.Typed.{TypedProgram}
use Rattle.bc_data.specs.WellTyped.{IsWellTyped}
use Rattle.bc_data.specs.declared.run.Changes.{Changes}
use Rattle.bc_data.specs.declared.run.Invocation.{Invocation}
use Rattle.bc_data.specs.declared.run.Ran.TheVariants as ran
use Rattle.bc_mean.specs.declared.plain.Plain.{Plain}
use Rattle.bc_mean.specs.Changes.{apply_changes}
use Rattle.bc_mean.specs.Commit.{HasRoom}
use Rattle.bc_mean.specs.Enabled.{IsEnabled}
use Rattle.bc_mean.specs.Execute.{Flow}
use Rattle.bc_mean.specs.Outcome.{body_run, outcome}
use Rattle.bc_mean.specs.Store.{Fits}
use Rattle.bc_mean.specs.Work.{Work, Got, Stops, Missing, Wrong}

-- no form stands where it has no meaning, and each object that is asked for is there
pub record IsNotStuck (g : Got Flow) : Type 0 where
  pub right : (w : Work) → g ≡ Stops Wrong w → ⊥
  pub known : (id : ℕ) (w : Work) → g ≡ Stops (Missing id) w → ⊥

abbrev pub NeverStuck : Type 0
NeverStuck =
    (P : TypedProgram) (S : Plain) (v : Invocation) → IsWellTyped P → Fits P S → IsEnabled P S v
    → IsNotStuck (body_run P S (slice_get P.tasks v.task) v)

abbrev pub KeepsFit : Type 0
KeepsFit =
    (P : TypedProgram) (S : Plain) (v : Invocation) (c : Changes) → IsWellTyped P → Fits P S → IsEnabled P S v
    → (outcome P S v).ran ≡ ran.Commit c
    → Fits P (apply_changes S c)

abbrev pub CommitsHaveRoom : Type 0
CommitsHaveRoom =
    (P : TypedProgram) (S : Plain) (v : Invocation) (c : Changes) → IsWellTyped P → Fits P S → IsEnabled P S v
    → (outcome P S v).ran ≡ ran.Commit c
    → HasRoom S c

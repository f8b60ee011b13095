-- What an invocation commits is changes that a kept store can publish.
use Rattle.std.specs.Prelude.{◌≡◌}
use Rattle.bc_data.specs.Typed.{TypedProgram}
use Rattle.bc_data.specs.WellTyped.{IsWellTyped}
use Rattle.bc_data.specs.declared.run.Changes.{Changes}
use Rattle.bc_data.specs.declared.run.Invocation.{Invocation}
use Rattle.bc_data.specs.declared.run.Ran.TheVariants as ran
use Rattle.bc_mean.specs.declared.plain.Plain.{Plain}
use Rattle.bc_mean.specs.Enabled.{IsEnabled}
use Rattle.bc_mean.specs.Outcome.{outcome}
use Rattle.bc_mean.specs.Store.{Fits}
use Rattle.bc_store.specs.Store.{CanPublish}

-- What an enabled invocation of a well typed program commits can be published in the store that it ran over: there is room,
-- each changed object is there, is changed once, and keeps its size.
abbrev pub CommitsCanBePublished : Type 0
CommitsCanBePublished =
    (P : TypedProgram) (S : Plain) (v : Invocation) (c : Changes) → IsWellTyped P → Fits P S → IsEnabled P S v
    → (outcome P S v).ran ≡ ran.Commit c
    → CanPublish S c

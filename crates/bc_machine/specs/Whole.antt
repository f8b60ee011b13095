-- What a run over a whole store comes to.
use Rattle.std.specs.Prelude.{◌≡◌}
use Rattle.bc_data.specs.Typed.{TypedProgram}
use Rattle.bc_data.specs.declared.run.Invocation.{Invocation}
use Rattle.bc_mean.specs.declared.plain.Plain.{Plain}
use Rattle.bc_step.specs.Area.{AreaParts, AgreesWith, given_of}
use Rattle.bc_machine.specs.declared.machine.Ended.{Ended}
use Rattle.bc_machine.specs.declared.machine.Going.TheVariants as going
use Rattle.bc_machine.specs.Running.{Tells}

-- The invocation's run ended so, with this area, which was given bodies of the store.
pub record ComesTo (P : TypedProgram) (S : Plain) (v : Invocation) (ended : Ended) (a : AreaParts) : Type 0 where
  pub invocation : a.invocation ≡ v
  pub agrees : AgreesWith S (given_of a.held)
  pub tells : Tells P a (going.Finished ended)

-- What comes to a later work or to a fault isn't stuck.
use Rattle.bc_data.specs.Typed.{TypedProgram}
use Rattle.bc_mean.specs.declared.plain.Plain.{Plain}
use Rattle.bc_mean.specs.Execute.{Flow}
use Rattle.bc_mean.specs.Work.{Work, Got, Gives, Stops, Faulted, Missing, Wrong}
use Rattle.bc_law_soundness.specs.Fitting.{Well}
use Rattle.bc_law_soundness.specs.Laws.{IsNotStuck, NeverStuck}
use Rattle.bc_law_soundness.proofs.Tasks.{Ended, body_well}
use Rattle.bc_mean.specs.Outcome.{work_at_start}

not_stuck : (P : TypedProgram) (S : Plain) (w : Work) (g : Got Flow) → Well P S w Ended g → IsNotStuck g
not_stuck P S w (Gives x v) h = record { right = λ u e. cc; known = λ id u e. cc }
not_stuck P S w (Stops (Faulted f) v) h = record { right = λ u e. cc; known = λ id u e. cc }
not_stuck P S w (Stops (Missing id) v) h = absurd h.well
not_stuck P S w (Stops Wrong v) h = absurd h.well

pub never_stuck : NeverStuck
never_stuck P S v well fits enabled = not_stuck P S (work_at_start v) _ (body_well P S v well fits enabled)

use Rattle.std.proofs.Common.{refl, ap}
use Rattle.bc_mean.specs.Work.{Stops}
use Rattle.bc_code.specs.Instructions.{Over}
use Rattle.bc_step.specs.Parts.{halt_of}
use Rattle.bc_step.proofs.Parts.{same_area, stays_put}
use Rattle.bc_step.proofs.answer.stopped.Goals as goal

pub returns-in-Fault-clause-answers : goal.returns-in-Fault-clause-answers
returns-in-Fault-clause-answers c = λ s w. (w, ap (λ h. Over (Stops (halt_of h) w)) c.in-Fault.is, ap (λ a. a.end) c.set_end.ensures)

pub returns-in-Need-clause-answers : goal.returns-in-Need-clause-answers
returns-in-Need-clause-answers c = λ s w. (w, ap (λ h. Over (Stops (halt_of h) w)) c.in-Need.is, stays_put s s _ _ (same_area _ _ refl) refl)

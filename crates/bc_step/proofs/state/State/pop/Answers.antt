use Rattle.std.proofs.Common.{refl}
use Rattle.bc_step.proofs.state.State.pop.Goals as goal

pub returns-in-Some : goal.returns-in-Some
returns-in-Some c = λ R code at a cs ts. (ts, rw c.in-Some.ensures.some refl)

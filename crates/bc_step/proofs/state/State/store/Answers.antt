use Rattle.std.proofs.Common.{refl}
use Rattle.bc_step.proofs.state.State.store.Goals as goal

pub returns-in-Some : goal.returns-in-Some
returns-in-Some c = λ R code at a cs ts. (ts, rw c.in-Some.ensures.some (rw c.set_slot.ensures.own (rw c.set_slot.ensures.others refl)))

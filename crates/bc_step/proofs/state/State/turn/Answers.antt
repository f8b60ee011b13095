use Rattle.std.proofs.Common.{◌≡◌, ◌-◌, suc, ap, refl, arith}
use Rattle.bc_mean.specs.Work.{take_turn}
use Rattle.bc_code.specs.Instructions.{goes, next}
use Rattle.bc_step.specs.Area.{work_with}
use Rattle.bc_step.specs.State.{state_with}
use Rattle.bc_step.proofs.state.State.turn.Goals as goal

pub returns-then-self-eq0 : goal.returns-then-self-eq0
returns-then-self-eq0 c = λ R code a cs ts. (work_with a c.args.self.now.turns cs ts, rw c.if-self-eq0.true refl)

pub returns : goal.returns
returns c = λ R code a cs ts.
    let s = state_with c.args.self.now a cs ts in
    let e : c.args.self.now.turns ≡ suc (c.args.self.now.turns - 1) = omega arith in
    (ts, ap (λ n. goes (take_turn c.args.at n s.work) (λ _ w. next s s.stack w)) e)

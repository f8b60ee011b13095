use Rattle.std.proofs.Common.{◌≡◌, ◌∙◌, ◌∷◌, [], ap, refl, reverse, arith}
use Rattle.bc_step.proofs.Stacks.{more_turned, none_turned}
use Rattle.bc_step.proofs.state.State.leave.Goals as goal

pub returns-in-None : goal.returns-in-None
returns-in-None c = λ R code at a cs ts.
    let e : reverse c.args.self.now.callers.items ≡ [] = none_turned c.args.self.now.callers.items (omega (arith, c.in-None.ensures.cases)) in
    (ts, rw e refl)

pub returns-in-Some : goal.returns-in-Some
returns-in-Some c = λ R code at a cs ts.
    let e : reverse c.args.self.now.callers.items ≡ c.in-Some.caller ∷ reverse c.pop.new.self.items =
    ap reverse c.in-Some.ensures.items ∙ more_turned c.pop.new.self.items c.in-Some.caller in
    (ts, rw e (rw c.truncate.ensures.items refl))

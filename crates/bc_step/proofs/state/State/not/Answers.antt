use Rattle.std.proofs.Common.{◌≡◌, ◌∙◌, ◌∷◌, ap, sym, refl, reverse}
use Rattle.bc_step.specs.Area.{work_with}
use Rattle.bc_step.proofs.state.State.not.Goals as goal

pub returns-in-Some : goal.returns-in-Some
returns-in-Some c = λ R code at a cs ts.
    let rest = c.in_ok-x.ensures.some.0 in
    let e : reverse c.args.self.now.stack.items ≡ c.in_ok-x.x ∷ rest = ap reverse (sym c.deref.ensures.value) ∙ c.in_ok-x.ensures.some.1 in
    (ts, rw e (rw (c.set_top.ensures c.in_ok-x.x rest e) (rw (c.inverted.ensures (work_with a c.args.self.now.turns cs ts)) (rw c.in-Some.is refl))))

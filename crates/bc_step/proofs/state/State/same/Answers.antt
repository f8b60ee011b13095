use Rattle.std.proofs.Common.{◌≡◌, ◌∙◌, ◌∷◌, ap, sym, refl, reverse}
use Rattle.bc_step.proofs.state.State.same.Goals as goal

pub returns-in-Some : goal.returns-in-Some
returns-in-Some c = λ R code at a cs ts.
    let rest = c.in-Some.ensures.some.0 in
    let e : reverse c.args.self.now.stack.items ≡ c.in-Some.y ∷ c.in-Some.x ∷ rest = ap reverse (sym c.deref.ensures.value) ∙ c.in-Some.ensures.some.1 in
    (ts, rw e (rw (c.replace_two.ensures c.in-Some.x c.in-Some.y rest e) (rw c.same_value.ensures refl)))

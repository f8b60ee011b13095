use Rattle.std.proofs.Common.{◌≡◌, ◌∙◌, ◌∷◌, ap, sym, refl, reverse}
use Rattle.bc_step.specs.Area.{work_with}
use Rattle.bc_step.proofs.state.State.calculate.Goals as goal

pub returns-in-Err-Some : goal.returns-in-Err-Some
returns-in-Err-Some c = λ a cs ts.
    let rest = c.in_ok-x.ensures.some.0 in
    let e : reverse c.args.self.now.stack.items ≡ c.in_ok-x.y ∷ c.in_ok-x.x ∷ rest = ap reverse (sym c.deref.ensures.value) ∙ c.in_ok-x.ensures.some.1 in
    let w = work_with a c.args.self.now.turns cs ts in
    (w, rw e (rw (c.combined.ensures w) (rw c.in-Err-Some.is (rw c.in-Err-Some.field-0-is refl))))

pub returns-in-Ok : goal.returns-in-Ok
returns-in-Ok c = λ a cs ts.
    let rest = c.in_ok-x.ensures.some.0 in
    let e : reverse c.args.self.now.stack.items ≡ c.in_ok-x.y ∷ c.in_ok-x.x ∷ rest = ap reverse (sym c.deref.ensures.value) ∙ c.in_ok-x.ensures.some.1 in
    (ts, rw e (rw (c.replace_two.ensures c.in_ok-x.x c.in_ok-x.y rest e) (rw (c.combined.ensures (work_with a c.args.self.now.turns cs ts)) (rw c.in-Ok.is refl))))

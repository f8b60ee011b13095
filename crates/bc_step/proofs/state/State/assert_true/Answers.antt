use Rattle.std.proofs.Common.{◌≡◌, ◌∙◌, ◌∷◌, true, false, ap, refl, reverse}
use Rattle.bc_data.specs.declared.run.Value.TheVariants as value
use Rattle.bc_step.specs.Area.{work_with}
use Rattle.bc_step.proofs.state.State.assert_true.Goals as goal

pub returns-then-b : goal.returns-then-b
returns-then-b c = λ R code a cs ts.
    let rest = reverse c.pop.new.stack.items in
    let e : reverse c.args.self.now.stack.items ≡ value.Bool true ∷ rest =
    c.in-Some-Bool.ensures.some ∙ ap (λ x. x ∷ rest) c.in-Some-Bool.field-0-is ∙ ap (λ b. value.Bool b ∷ rest) c.if-b.true in
    (ts, rw e refl)

pub returns-else-b : goal.returns-else-b
returns-else-b c = λ R code a cs ts.
    let rest = reverse c.pop.new.stack.items in
    let e : reverse c.args.self.now.stack.items ≡ value.Bool false ∷ rest =
    c.in-Some-Bool.ensures.some ∙ ap (λ x. x ∷ rest) c.in-Some-Bool.field-0-is ∙ ap (λ b. value.Bool b ∷ rest) c.if-b.false in
    (work_with a c.args.self.now.turns cs ts, rw e refl)

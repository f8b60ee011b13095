use Rattle.std.proofs.Common.{◌≡◌, ◌∙◌, ◌∷◌, ap, refl, reverse}
use Rattle.bc_data.specs.declared.run.Value.TheVariants as value
use Rattle.bc_step.proofs.state.State.branch.Goals.{then-b, else-b}
use Rattle.bc_step.proofs.state.State.branch.Goals as goal

pub returns-after-b : goal.returns-after-b
returns-after-b c = λ a cs ts.
    let rest = reverse c.pop.new.stack.items in
    let e : reverse c.args.self.now.stack.items ≡ value.Bool c.in-Some-Bool.b ∷ rest = c.in-Some-Bool.ensures.some ∙ ap (λ x. x ∷ rest) c.in-Some-Bool.field-0-is in
    (ts, rw e (elim c.if-b.branch [ then-b w ↦ rw w.if-b.true (rw w.self-is refl) | else-b w ↦ rw w.if-b.false (rw w.self-is refl) ]))

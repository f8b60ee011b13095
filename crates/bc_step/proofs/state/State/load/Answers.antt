use Rattle.std.proofs.Common.{◌≡◌, ◌∙◌, ap, sym, drop, Some}
use Rattle.std.specs.Prelude.{slice_get}
use Rattle.bc_step.proofs.Rules.{mapped}
use Rattle.bc_step.proofs.state.State.load.Goals as goal

pub returns-in-Some-clause-ok : goal.returns-in-Some-clause-ok
returns-in-Some-clause-ok c =
    let e : slice_get (drop c.args.self.now.current.base c.args.self.now.slots.items) c.args.n ≡ Some c.in-Some.x =
    ap (λ l. slice_get (drop c.args.self.now.current.base l) c.args.n) (sym c.deref.ensures.value) ∙ sym c.slot.ensures ∙ c.in-Some.is in
    mapped c.put.result _ _ (λ did h R code at a cs ts. rw e (h a cs ts)) c.put.ensures.ok

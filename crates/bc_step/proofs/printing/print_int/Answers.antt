use Rattle.std.proofs.Common.{◌≡◌, ◌∙◌, ◌∷◌, ap, sym, reverse}
use Rattle.bc_mean.specs.Work.{say}
use Rattle.bc_mean.specs.Execute.{say_number}
use Rattle.bc_step.specs.Area.{work_with}
use Rattle.bc_step.specs.Control.{told}
use Rattle.bc_step.proofs.Rules.{mapped}
use Rattle.bc_step.proofs.printing.print_int.Goals as goal

pub returns-in-Some-2-clause-ok : goal.returns-in-Some-2-clause-ok
returns-in-Some-2-clause-ok c =
    mapped c.print_top.result _ _
    (λ did h code cs ts copies.
    let x = c.in-Some.x in
    let rest = c.in-Some.ensures.some.0 in
    let w = work_with c.args.area.now c.args.state.now.turns cs ts in
    let e : reverse c.args.state.now.stack.items ≡ x ∷ rest = ap reverse (sym c.deref.ensures.value) ∙ c.in-Some.ensures.some.1 in
    let spoken : say_number c.args.at x w ≡ say c.args.at c.as_slice.result.now w = c.in_ok-number_text-in-Some.ensures c.args.at w ∙ ap (λ o. told o c.args.at w) c.in-Some-2.is ∙ ap (λ l. say c.args.at l w) (sym c.as_slice.ensures) in
    rw e (rw spoken (h x rest cs ts e copies)))
    c.print_top.ensures.ok

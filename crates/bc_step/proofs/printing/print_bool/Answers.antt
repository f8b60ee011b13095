use Rattle.std.proofs.Common.{◌≡◌, ◌∙◌, ◌∷◌, ap, sym, reverse}
use Rattle.std.specs.Prelude.{option_copied}
use Rattle.bc_mean.specs.Work.{say}
use Rattle.bc_mean.specs.Execute.{say_truth}
use Rattle.bc_step.specs.Area.{work_with}
use Rattle.bc_step.specs.Control.{told}
use Rattle.bc_step.proofs.Rules.{mapped}
use Rattle.bc_step.proofs.printing.print_bool.Goals as goal

pub returns-in-Some-truth_text-clause-ok : goal.returns-in-Some-truth_text-clause-ok
returns-in-Some-truth_text-clause-ok c =
    mapped c.print_top.result _ _
    (λ did h code cs ts copies.
    let x = c.in-Some.x in
    let rest = c.in-Some.ensures.some.0 in
    let w = work_with c.args.area.now c.args.state.now.turns cs ts in
    let e : reverse c.args.state.now.stack.items ≡ x ∷ rest = ap reverse (sym c.deref.ensures.value) ∙ c.in-Some.ensures.some.1 in
    let spoken : say_truth c.args.at x w ≡ say c.args.at c.in-Some-truth_text.text.now w = c.truth_text.ensures c.args.at w ∙ ap (λ o. told (option_copied o) c.args.at w) c.in-Some-truth_text.is in
    rw e (rw spoken (h x rest cs ts e copies)))
    c.print_top.ensures.ok

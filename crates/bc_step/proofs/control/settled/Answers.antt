use Rattle.std.proofs.Common.{subst, Option, Some}
use Rattle.bc_step.specs.declared.state.Did.{Did as Answer}
use Rattle.bc_step.specs.Control.{Moves}
use Rattle.bc_step.proofs.Settling.{settle, kept}
use Rattle.bc_step.proofs.control.settled.Goals as goal

pub returns-in-Some-clause-answers : goal.returns-in-Some-clause-answers
returns-in-Some-clause-answers c = λ s t cs d copies h.
    settle (Some c.in-Some.answer) s t c.args.area.now c.set_end.new.area cs d c.set_end.ensures copies (subst (λ (o : Option Answer). Moves o s t c.args.area.now cs d) c.in-Some.is h)

pub returns-in-Some-clause-kept : goal.returns-in-Some-clause-kept
returns-in-Some-clause-kept c = kept (Some c.in-Some.answer) c.args.area.now c.set_end.new.area c.set_end.ensures

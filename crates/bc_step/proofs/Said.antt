-- What a print answers.
use Rattle.std.proofs.Common.{◌≡◌, ◌∙◌, ap, sym, subst, Option, Some, None, List, ℕ}
use Rattle.bc_data.specs.declared.run.Fault.{Fault}
use Rattle.bc_data.specs.declared.run.Place.{Place}
use Rattle.bc_data.specs.declared.run.Written.{Written}
use Rattle.bc_mean.specs.Work.{Work, Stops, Faulted, say}
use Rattle.bc_code.specs.Instructions.{Did, On, Over, goes}
use Rattle.bc_step.specs.declared.state.State.{State}
use Rattle.bc_step.specs.declared.state.Did.TheVariants as answer
use Rattle.bc_step.specs.Area.{AreaParts, AreCopies, work_with}
use Rattle.bc_step.specs.State.{AnswersIf, state_with}
use Rattle.bc_step.specs.Control.{Said}

module _ (s t : State) (a b : AreaParts) (at : Place) (bytes : List ℕ) (cs : List Written) (ts : List ℕ) (k : Unit {0} → Work → Did) (copies : AreCopies cs a.held) where
  pub said : (o : Option Fault) → o ≡ None → Said o at bytes a b → k tt (work_with b s.turns cs ts) ≡ On (state_with t b cs ts) → AnswersIf (Some answer.On) s a t b (goes (say at bytes (work_with a s.turns cs ts)) k)
  said o none h e =
      let done = subst (λ o. Said o at bytes a b) none h in (
        record {
          copies = cs;
          touched = ts;
          are = subst (λ (x : AreaParts). AreCopies cs x.held) (sym done.1) copies;
          is = rw done.0 (ap (λ (x : AreaParts). k tt (work_with x s.turns cs ts)) (sym done.1) ∙ e);
        },
        ap (λ (x : AreaParts). x.end) done.1,
      )

  pub too_long : (o : Option Fault) (f : Fault) → o ≡ Some f → Said o at bytes a b → AnswersIf (Some (answer.Fault f)) s a t b (goes (say at bytes (work_with a s.turns cs ts)) k)
  too_long o f some h =
      let done = subst (λ o. Said o at bytes a b) some h in (
        work_with a s.turns cs ts,
        rw done.0 (ap (λ x. Over (Stops (Faulted x) (work_with a s.turns cs ts))) (sym done.1)),
        ap (λ (x : AreaParts). x.end) done.2,
      )

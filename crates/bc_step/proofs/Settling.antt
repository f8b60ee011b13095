-- What an instruction's answer says once the area's end is set.
use Rattle.std.proofs.Common.{◌≡◌, List, refl, sym, subst, arith, Option, Some, None}
use Rattle.bc_data.specs.declared.run.Written.{Written}
use Rattle.bc_code.specs.Instructions.{Did}
use Rattle.bc_step.specs.declared.state.State.{State}
use Rattle.bc_step.specs.declared.state.Did.{Did as Answer}
use Rattle.bc_step.specs.declared.state.Did.TheVariants as answer
use Rattle.bc_step.specs.Area.{AreaParts, AreCopies, IsSame}
use Rattle.bc_step.specs.State.{AnswersIf, KeepsGiven, StaysPut}
use Rattle.bc_step.specs.Control.{IsStill, Moves, ended}

pub itself : (a : AreaParts) → IsSame a a
itself a = record { copies = λ cs h. h; made = refl; invocation = refl; given = refl; instances = refl; text = refl; end = refl; spare = omega arith }

pub stays : (s t : State) (a : AreaParts) → IsStill s t → StaysPut s a t a
stays s t a h = record { area = itself a; state = λ cs ts. h a cs ts }

settle_at : (o : Option Answer) (s t : State) (a : AreaParts) (cs : List Written) (d : Did) → AreCopies cs a.held → Moves o s t a cs d → AnswersIf o s a t (ended o a) d
settle_at None s t a cs d copies h = h
settle_at (Some answer.On) s t a cs d copies h = (record { copies = cs; touched = h.0; are = copies; is = h.1 }, refl)
settle_at (Some (answer.Need id)) s t a cs d copies h = (h.0, h.1, stays s t a h.2)
settle_at (Some answer.Exit) s t a cs d copies h = (record { copies = cs; touched = h.0; are = copies; is = h.1 }, refl)
settle_at (Some (answer.Fault f)) s t a cs d copies h = (h.0, h.1, refl)

pub settle : (o : Option Answer) (s t : State) (a b : AreaParts) (cs : List Written) (d : Did) → b ≡ ended o a → AreCopies cs a.held → Moves o s t a cs d → AnswersIf o s a t b d
settle o s t a b cs d e copies h = subst (λ (x : AreaParts). AnswersIf o s a t x d) (sym e) (settle_at o s t a cs d copies h)

kept_at : (o : Option Answer) (a : AreaParts) → KeepsGiven a (ended o a)
kept_at None a = record { invocation = refl; given = refl; spare = omega arith }
kept_at (Some answer.On) a = record { invocation = refl; given = refl; spare = omega arith }
kept_at (Some (answer.Need id)) a = record { invocation = refl; given = refl; spare = omega arith }
kept_at (Some answer.Exit) a = record { invocation = refl; given = refl; spare = omega arith }
kept_at (Some (answer.Fault f)) a = record { invocation = refl; given = refl; spare = omega arith }

pub kept : (o : Option Answer) (a b : AreaParts) → b ≡ ended o a → KeepsGiven a b
kept o a b e = subst (KeepsGiven a) (sym e) (kept_at o a)

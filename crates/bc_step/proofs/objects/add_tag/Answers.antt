use Rattle.std.proofs.Common.{◌≡◌, ◌∙◌, ◌∷◌, None, ap, reverse, subst, sym}
use Rattle.std.specs.Prelude.{slice_get}
use Rattle.bc_mean.specs.Work.{and_then, bind, known}
use Rattle.bc_code.specs.Instructions.{new_object, next}
use Rattle.bc_step.specs.Area.{reads_of}
use Rattle.bc_step.specs.State.{AnswersIf, state_with, tags_in}
use Rattle.bc_step.specs.declared.answer.Halt.TheVariants as halt
use Rattle.bc_step.proofs.ObjectRules.{add_tag_rule}
use Rattle.bc_step.proofs.Parts.{halts_first, stops}
use Rattle.bc_step.proofs.TagRules.{ok_then}
use Rattle.bc_step.proofs.objects.add_tag.Goals as goal

pub returns-in-None-clause-ok : goal.returns-in-None-clause-ok
returns-in-None-clause-ok c = λ code cs ts are.
    let s = c.args.state.now in
    let a = c.args.area.now in
    let R = reads_of a in
    let p = c.args.at in
    let x = c.in-Some.x in
    let st = c.in-Some.ensures.some.0 in
    let e : reverse s.stack.items ≡ x ∷ st = ap reverse (sym c.deref.ensures.value) ∙ c.in-Some.ensures.some.1 in
    stops
    s
    s
    a
    a
    halt.Wrong
    (λ w. and_then (new_object x w) (λ o w. and_then (known (slice_get (tags_in (reverse s.callers.items) s.tags.items) c.args.variable) w) (λ t v. bind p o t v)))
    (λ _ v. next (state_with s a cs ts) (reverse s.stack.items) v)
    None
    _
    cs
    ts
    (add_tag_rule R code p (state_with s a cs ts) c.args.variable x st e)
    (halts_first a halt.Wrong (λ w. new_object x w) (λ o w. and_then (known (slice_get (tags_in (reverse s.callers.items) s.tags.items) c.args.variable) w) (λ t v. bind p o t v)) c.in-None.ensures.none)
    (λ w none. none)
    are

pub returns-in-Some-made_at-clause-ok : goal.returns-in-Some-made_at-clause-ok
returns-in-Some-made_at-clause-ok c =
    let s = c.args.state.now in
    let a = c.args.area.now in
    let x = c.in-Some.x in
    let st = c.in-Some.ensures.some.0 in
    let e : reverse s.stack.items ≡ x ∷ st = ap reverse (sym c.deref.ensures.value) ∙ c.in-Some.ensures.some.1 in
    ok_then _ _ c.bind_variable.result c.bind_variable.ensures.ok (λ did bound code cs ts are.
    subst
    (AnswersIf did s a c.bind_variable.new.state c.bind_variable.new.area)
    (sym (add_tag_rule (reads_of a) code c.args.at (state_with s a cs ts) c.args.variable x st e))
    (bound (λ w. new_object x w) c.in-Some-made_at.field-0-1.now cs ts c.in-Some-made_at.ensures.there c.in-Some-made_at.ensures.some are))

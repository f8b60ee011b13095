use Rattle.std.proofs.Common.{◌≡◌, ◌∙◌, ◌∷◌, ap, refl, reverse, sym}
use Rattle.std.specs.Prelude.{slice_get}
use Rattle.bc_mean.specs.Work.{and_then, known, reach}
use Rattle.bc_code.specs.Instructions.{next}
use Rattle.bc_step.specs.Area.{reads_of}
use Rattle.bc_step.specs.State.{state_with}
use Rattle.bc_step.proofs.ObjectRules.{field_rule}
use Rattle.bc_step.proofs.Parts.{goes_on, stops}
use Rattle.bc_step.proofs.objects.field.Goals as goal

pub returns-in-Err-clause-ok : goal.returns-in-Err-clause-ok
returns-in-Err-clause-ok c = λ code cs ts are.
    let s = c.args.state.now in
    let a = c.args.area.now in
    let R = reads_of a in
    let p = c.args.at in
    let x = c.in-Some.x in
    let st = c.in-Some.ensures.some.0 in
    let e : reverse s.stack.items ≡ x ∷ st = ap reverse (sym c.deref.ensures.value) ∙ c.in-Some.ensures.some.1 in
    stops
    s
    s
    a
    c.stopped.new.area
    c.in-Err.halt
    (λ w. and_then (reach R.look p x w) (λ o v. known (slice_get o.body.cells c.args.field) v))
    (λ y v. next (state_with s a cs ts) (y ∷ st) v)
    c.stopped.result
    _
    cs
    ts
    (field_rule R code p (state_with s a cs ts) c.args.field x st e)
    c.in-Err.ensures.err
    (c.stopped.ensures.answers s)
    are

pub returns-in-Ok-clause-ok : goal.returns-in-Ok-clause-ok
returns-in-Ok-clause-ok c = λ code cs ts are.
    let s = c.args.state.now in
    let a = c.args.area.now in
    let R = reads_of a in
    let p = c.args.at in
    let x = c.in-Some.x in
    let st = c.in-Some.ensures.some.0 in
    let e : reverse s.stack.items ≡ x ∷ st = ap reverse (sym c.deref.ensures.value) ∙ c.in-Some.ensures.some.1 in
    goes_on
    s
    c.advance.new.state
    a
    a
    c.in-Ok.y
    (λ w. and_then (reach R.look p x w) (λ o v. known (slice_get o.body.cells c.args.field) v))
    (λ y. y ∷ st)
    _
    cs
    ts
    (field_rule R code p (state_with s a cs ts) c.args.field x st e)
    c.in-Ok.ensures.ok
    c.advance.ensures.behind
    (ap (λ v. reverse v.items) c.advance.ensures.stack ∙ c.set_top.ensures x st e)
    refl
    are

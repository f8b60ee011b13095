use Rattle.std.proofs.Common.{◌≡◌, ◌∙◌, ◌∷◌, ap, refl, reverse, sym}
use Rattle.std.specs.Prelude.{slice_get}
use Rattle.bc_mean.specs.Evaluate.{index_in}
use Rattle.bc_mean.specs.Work.{and_then, known, reach}
use Rattle.bc_code.specs.Instructions.{next}
use Rattle.bc_step.specs.Area.{reads_of}
use Rattle.bc_step.specs.State.{state_with}
use Rattle.bc_step.proofs.ObjectRules.{elem_rule}
use Rattle.bc_step.proofs.Parts.{goes_on, stops}
use Rattle.bc_step.proofs.objects.elem.Goals as goal

pub returns-in-Err-clause-ok : goal.returns-in-Err-clause-ok
returns-in-Err-clause-ok c = λ code cs ts are.
    let s = c.args.state.now in
    let a = c.args.area.now in
    let R = reads_of a in
    let p = c.args.at in
    let x = c.in-Some.array in
    let i = c.in-Some.i in
    let st = c.in-Some.ensures.some.0 in
    let e : reverse s.stack.items ≡ i ∷ x ∷ st = ap reverse (sym c.deref.ensures.value) ∙ c.in-Some.ensures.some.1 in
    stops
    s
    s
    a
    c.stopped.new.area
    c.in-Err.halt
    (λ w. and_then (reach R.look p x w) (λ o v. and_then (index_in p o.body i v) (λ n u. known (slice_get o.body.cells n) u)))
    (λ y v. next (state_with s a cs ts) (y ∷ st) v)
    c.stopped.result
    _
    cs
    ts
    (elem_rule R code p (state_with s a cs ts) x i st e)
    c.in-Err.ensures.err
    (c.stopped.ensures.answers s)
    are

pub returns-in-Ok-clause-ok : goal.returns-in-Ok-clause-ok
returns-in-Ok-clause-ok c = λ code cs ts are.
    let s = c.args.state.now in
    let a = c.args.area.now in
    let R = reads_of a in
    let p = c.args.at in
    let x = c.in-Some.array in
    let i = c.in-Some.i in
    let st = c.in-Some.ensures.some.0 in
    let e : reverse s.stack.items ≡ i ∷ x ∷ st = ap reverse (sym c.deref.ensures.value) ∙ c.in-Some.ensures.some.1 in
    goes_on
    s
    c.advance.new.state
    a
    a
    c.in-Ok.y
    (λ w. and_then (reach R.look p x w) (λ o v. and_then (index_in p o.body i v) (λ n u. known (slice_get o.body.cells n) u)))
    (λ y. y ∷ st)
    _
    cs
    ts
    (elem_rule R code p (state_with s a cs ts) x i st e)
    c.in-Ok.ensures.ok
    c.advance.ensures.behind
    (ap (λ v. reverse v.items) c.advance.ensures.stack ∙ c.replace_two.ensures x i st e)
    refl
    are

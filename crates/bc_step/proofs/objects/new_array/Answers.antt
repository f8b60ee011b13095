use Rattle.std.proofs.Common.{◌≡◌, ◌∙◌, ◌∷◌, Some, ap, reverse, subst, sym}
use Rattle.bc_data.specs.declared.run.Value.TheVariants as value
use Rattle.bc_mean.specs.Evaluate.{make_array, zero_array}
use Rattle.bc_mean.specs.Work.{Gives, and_then, make}
use Rattle.bc_code.specs.Instructions.{next}
use Rattle.bc_step.specs.Area.{MakesObject, reads_of}
use Rattle.bc_step.specs.State.{state_with}
use Rattle.bc_step.proofs.ObjectRules.{new_array_rule}
use Rattle.bc_step.proofs.Parts.{any_halts, array_is, does_as, does_then, gives, goes_on, made_end, make_does, stops}
use Rattle.bc_step.proofs.objects.new_array.Goals as goal

pub returns-in-Err-clause-ok : goal.returns-in-Err-clause-ok
returns-in-Err-clause-ok c = λ code cs ts are.
    let s = c.args.state.now in
    let a = c.args.area.now in
    let R = reads_of a in
    let p = c.args.at in
    let x = c.in-Some.x in
    let st = c.in-Some.ensures.some.0 in
    let e : reverse s.stack.items ≡ x ∷ st = ap reverse (sym c.deref.ensures.value) ∙ c.in-Some.ensures.some.1 in
    stops
    s
    s
    a
    c.stopped.new.area
    c.in-Err.halt
    (λ w. make_array p c.args.kind x w)
    (λ y v. next (state_with s a cs ts) (y ∷ st) v)
    c.stopped.result
    _
    cs
    ts
    (new_array_rule R code p (state_with s a cs ts) c.args.kind x st e)
    (any_halts a c.in-Err.halt (λ w. make_array p c.args.kind x w) (c.in-Err.ensures.err c.args.kind))
    (c.stopped.ensures.answers s)
    are

pub returns-in-Some-2-clause-ok : goal.returns-in-Some-2-clause-ok
returns-in-Some-2-clause-ok c = λ code cs ts are.
    let s = c.args.state.now in
    let a = c.args.area.now in
    let R = reads_of a in
    let p = c.args.at in
    let x = c.in-Some.x in
    let st = c.in-Some.ensures.some.0 in
    let e : reverse s.stack.items ≡ x ∷ st = ap reverse (sym c.deref.ensures.value) ∙ c.in-Some.ensures.some.1 in
    let n = c.in-Ok.n in
    let i = c.in-Some-2.i in
    let b = c.make.new.self in
    let d = zero_array c.args.kind n in
    let made : MakesObject (Some i) d a b = subst (λ o. MakesObject o d a b) c.in-Some-2.is (subst (λ d. MakesObject c.in_ok-make-in-Ok.field-0 d a b) c.in_ok-body-in-Ok.ensures c.in_ok-make-in-Ok.ensures.ok) in
    goes_on
    s
    c.advance.new.state
    a
    b
    (value.New i)
    (λ w. make_array p c.args.kind x w)
    (λ y. y ∷ st)
    _
    cs
    ts
    (new_array_rule R code p (state_with s a cs ts) c.args.kind x st e)
    (does_as a b (value.New i) (λ w. make_array p c.args.kind x w) (λ w. and_then (make p d w) (λ i v. Gives (value.New i) v)) (λ w. array_is p c.args.kind x n w c.in-Ok.ensures.ok c.in-Ok.ensures.few) (does_then a b b i (value.New i) (λ w. make p d w) (λ i v. Gives (value.New i) v) (make_does a b p d i made) (gives b (value.New i))))
    c.advance.ensures.behind
    (ap (λ v. reverse v.items) c.advance.ensures.stack ∙ c.set_top.ensures x st e)
    (made_end a b d i made)
    are

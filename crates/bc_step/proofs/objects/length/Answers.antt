use Rattle.std.proofs.Common.{◌≡◌, ◌∙◌, ◌∷◌, ap, length, refl, reverse, subst, sym}
use Rattle.std.specs.Prelude.{pos}
use Rattle.bc_data.specs.declared.run.Value.TheVariants as value
use Rattle.bc_mean.specs.Work.{Gives, and_then, reach}
use Rattle.bc_code.specs.Instructions.{next}
use Rattle.bc_step.specs.Area.{reads_of}
use Rattle.bc_step.specs.State.{state_with}
use Rattle.bc_step.specs.Parts.{Does}
use Rattle.bc_step.proofs.ObjectRules.{length_rule}
use Rattle.bc_step.proofs.Parts.{goes_on, halts_first, stops}
use Rattle.bc_step.proofs.objects.length.Goals as goal

pub returns-in-Err-clause-ok : goal.returns-in-Err-clause-ok
returns-in-Err-clause-ok c = λ code cs ts are.
    let s = c.args.state.now in
    let a = c.args.area.now in
    let R = reads_of a in
    let p = c.args.at in
    let x = c.in-Some.x in
    let st = c.in-Some.ensures.some.0 in
    let e : reverse s.stack.items ≡ x ∷ st = ap reverse (sym c.deref.ensures.value) ∙ c.in-Some.ensures.some.1 in
    stops
    s
    s
    a
    c.stopped.new.area
    c.in-Err.halt
    (λ w. and_then (reach R.look p x w) (λ o v. Gives (value.Int (pos (length o.body.cells))) v))
    (λ y v. next (state_with s a cs ts) (y ∷ st) v)
    c.stopped.result
    _
    cs
    ts
    (length_rule R code p (state_with s a cs ts) x st e)
    (halts_first a c.in-Err.halt (λ w. reach R.look p x w) (λ o v. Gives (value.Int (pos (length o.body.cells))) v) c.in-Err.ensures.err)
    (c.stopped.ensures.answers s)
    are

pub returns-in_ok-len-in-Ok-clause-ok : goal.returns-in_ok-len-in-Ok-clause-ok
returns-in_ok-len-in-Ok-clause-ok c = λ code cs ts are.
    let s = c.args.state.now in
    let a = c.args.area.now in
    let R = reads_of a in
    let p = c.args.at in
    let x = c.in-Some.x in
    let st = c.in-Some.ensures.some.0 in
    let e : reverse s.stack.items ≡ x ∷ st = ap reverse (sym c.deref.ensures.value) ∙ c.in-Some.ensures.some.1 in
    goes_on
    s
    c.advance.new.state
    a
    a
    c.in_ok-len-in-Ok.len
    (λ w. and_then (reach R.look p x w) (λ o v. Gives (value.Int (pos (length o.body.cells))) v))
    (λ y. y ∷ st)
    _
    cs
    ts
    (length_rule R code p (state_with s a cs ts) x st e)
    (subst (λ y. Does y a a (λ w. and_then (reach R.look p x w) (λ o v. Gives (value.Int (pos (length o.body.cells))) v))) (sym c.in_ok-len-in-Ok.ensures) c.in-Ok.ensures.ok)
    c.advance.ensures.behind
    (ap (λ v. reverse v.items) c.advance.ensures.stack ∙ c.set_top.ensures x st e)
    refl
    are

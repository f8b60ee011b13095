use Rattle.std.proofs.Common.{◌≡◌, ◌∙◌, ◌∷◌, None, ap, reverse, sym}
use Rattle.bc_mean.specs.Work.{and_then, set_flag}
use Rattle.bc_code.specs.Instructions.{new_object, next}
use Rattle.bc_step.specs.Area.{reads_of}
use Rattle.bc_step.specs.State.{state_with}
use Rattle.bc_step.specs.Parts.{reached_at}
use Rattle.bc_step.specs.declared.answer.Halt.TheVariants as halt
use Rattle.bc_step.proofs.ObjectRules.{set_flag_rule}
use Rattle.bc_step.proofs.Parts.{does_then, goes_on, halts_first, kept_by, stops, write_does}
use Rattle.bc_step.proofs.objects.set_flag.Goals as goal

pub returns-in-None-clause-ok : goal.returns-in-None-clause-ok
returns-in-None-clause-ok c = λ code cs ts are.
    let s = c.args.state.now in
    let a = c.args.area.now in
    let R = reads_of a in
    let p = c.args.at in
    let x = c.in-Some.x in
    let st = c.in-Some.ensures.some.0 in
    let e : reverse s.stack.items ≡ x ∷ st = ap reverse (sym c.deref.ensures.value) ∙ c.in-Some.ensures.some.1 in
    stops
    s
    s
    a
    a
    halt.Wrong
    (λ w. and_then (new_object x w) (λ o w. set_flag o c.args.flag c.args.on w))
    (λ _ v. next (state_with s a cs ts) (reverse s.stack.items) v)
    None
    _
    cs
    ts
    (set_flag_rule R code p (state_with s a cs ts) c.args.flag c.args.on x st e)
    (halts_first a halt.Wrong (λ w. new_object x w) (λ o w. set_flag o c.args.flag c.args.on w) c.in-None.ensures.none)
    (λ w none. none)
    are

pub returns-in_ok-edit-in-Some-made_at-clause-ok : goal.returns-in_ok-edit-in-Some-made_at-clause-ok
returns-in_ok-edit-in-Some-made_at-clause-ok c = λ code cs ts are.
    let s = c.args.state.now in
    let a = c.args.area.now in
    let R = reads_of a in
    let p = c.args.at in
    let x = c.in-Some.x in
    let st = c.in-Some.ensures.some.0 in
    let e : reverse s.stack.items ≡ x ∷ st = ap reverse (sym c.deref.ensures.value) ∙ c.in-Some.ensures.some.1 in
    let o = c.in-Some-made_at.object in
    let body = c.in-Some-made_at.field-0-1.now in
    let b = c.edit.new.self in
    let has = c.in_ok-edit-in-Some-made_at.ensures.ok body c.in-Some-made_at.ensures.there in
    goes_on
    s
    c.advance.new.state
    a
    b
    (tt {0})
    (λ w. and_then (new_object x w) (λ o w. set_flag o c.args.flag c.args.on w))
    (λ _. reverse s.stack.items)
    _
    cs
    ts
    (set_flag_rule R code p (state_with s a cs ts) c.args.flag c.args.on x st e)
    (does_then a a b (reached_at o body) (tt {0}) (λ w. new_object x w) (λ o w. set_flag o c.args.flag c.args.on w) c.in-Some-made_at.ensures.some (write_does a b o _ has))
    c.advance.ensures.behind
    (ap (λ v. reverse v.items) c.advance.ensures.stack)
    has.end
    are

pub returns-in_ok-edit-in-Some-made_at-clause-kept : goal.returns-in_ok-edit-in-Some-made_at-clause-kept
returns-in_ok-edit-in-Some-made_at-clause-kept c =
    kept_by c.args.area.now c.edit.new.self c.in-Some-made_at.object _ (c.in_ok-edit-in-Some-made_at.ensures.ok c.in-Some-made_at.field-0-1.now c.in-Some-made_at.ensures.there)

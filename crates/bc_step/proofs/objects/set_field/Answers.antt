use Rattle.std.proofs.Common.{◌≡◌, ◌∙◌, ◌∷◌, ap, reverse, sym}
use Rattle.bc_mean.specs.Execute.{write_cell}
use Rattle.bc_mean.specs.Work.{and_then, reach}
use Rattle.bc_code.specs.Instructions.{next}
use Rattle.bc_step.specs.Area.{reads_of}
use Rattle.bc_step.specs.State.{state_with}
use Rattle.bc_step.specs.Parts.{reached_at}
use Rattle.bc_step.proofs.ObjectRules.{set_field_rule}
use Rattle.bc_step.proofs.Parts.{does_then, goes_on, halts_first, kept_by, stops, write_does}
use Rattle.bc_step.proofs.objects.set_field.Goals as goal

pub returns-in-Err-clause-ok : goal.returns-in-Err-clause-ok
returns-in-Err-clause-ok c = λ code cs ts are.
    let s = c.args.state.now in
    let a = c.args.area.now in
    let R = reads_of a in
    let p = c.args.at in
    let x = c.in-Some.x in
    let y = c.in-Some.y in
    let st = c.in-Some.ensures.some.0 in
    let e : reverse s.stack.items ≡ y ∷ x ∷ st = ap reverse (sym c.deref.ensures.value) ∙ c.in-Some.ensures.some.1 in
    stops
    s
    s
    a
    c.stopped.new.area
    c.in-Err.halt
    (λ w. and_then (reach R.look p x w) (λ o v. write_cell o c.args.field y v))
    (λ _ v. next (state_with s a cs ts) st v)
    c.stopped.result
    _
    cs
    ts
    (set_field_rule R code p (state_with s a cs ts) c.args.field x y st e)
    (halts_first a c.in-Err.halt (λ w. reach R.look p x w) (λ o v. write_cell o c.args.field y v) c.in-Err.ensures.err)
    (c.stopped.ensures.answers s)
    are

pub returns-in_ok-edit-in-Ok-clause-ok : goal.returns-in_ok-edit-in-Ok-clause-ok
returns-in_ok-edit-in-Ok-clause-ok c = λ code cs ts are.
    let s = c.args.state.now in
    let a = c.args.area.now in
    let R = reads_of a in
    let p = c.args.at in
    let x = c.in-Some.x in
    let y = c.in-Some.y in
    let st = c.in-Some.ensures.some.0 in
    let e : reverse s.stack.items ≡ y ∷ x ∷ st = ap reverse (sym c.deref.ensures.value) ∙ c.in-Some.ensures.some.1 in
    let o = c.in-Ok.object in
    let body = c.in-Ok.field-0-1.now in
    let b = c.edit.new.self in
    let has = c.in_ok-edit-in-Ok.ensures.ok body c.in-Ok.ensures.there in
    goes_on
    s
    c.advance.new.state
    a
    b
    (tt {0})
    (λ w. and_then (reach R.look p x w) (λ o v. write_cell o c.args.field y v))
    (λ _. st)
    _
    cs
    ts
    (set_field_rule R code p (state_with s a cs ts) c.args.field x y st e)
    (does_then a a b (reached_at o body) (tt {0}) (λ w. reach R.look p x w) (λ o v. write_cell o c.args.field y v) c.in-Ok.ensures.ok (write_does a b o _ has))
    c.advance.ensures.behind
    (ap (λ v. reverse v.items) c.advance.ensures.stack ∙ c.drop_two.ensures x y st e)
    has.end
    are

pub returns-in_ok-edit-in-Ok-clause-kept : goal.returns-in_ok-edit-in-Ok-clause-kept
returns-in_ok-edit-in-Ok-clause-kept c = kept_by c.args.area.now c.edit.new.self c.in-Ok.object _ (c.in_ok-edit-in-Ok.ensures.ok c.in-Ok.field-0-1.now c.in-Ok.ensures.there)

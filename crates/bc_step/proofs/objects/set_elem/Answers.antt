use Rattle.std.proofs.Common.{◌≡◌, ◌∙◌, ◌∷◌, ap, reverse, sym}
use Rattle.bc_mean.specs.Evaluate.{index_in}
use Rattle.bc_mean.specs.Execute.{write_cell}
use Rattle.bc_mean.specs.Work.{and_then, reach}
use Rattle.bc_code.specs.Instructions.{next}
use Rattle.bc_step.specs.Area.{reads_of}
use Rattle.bc_step.specs.State.{state_with}
use Rattle.bc_step.specs.Parts.{reached_at}
use Rattle.bc_step.proofs.ObjectRules.{set_elem_rule}
use Rattle.bc_step.proofs.Parts.{any_does, any_halts, does_then, goes_on, halts_first, halts_then, kept_by, stops, write_does}
use Rattle.bc_step.proofs.objects.set_elem.Goals as goal

pub returns-in-Err-clause-ok : goal.returns-in-Err-clause-ok
returns-in-Err-clause-ok c = λ code cs ts are.
    let s = c.args.state.now in
    let a = c.args.area.now in
    let R = reads_of a in
    let p = c.args.at in
    let x = c.in-Some.array in
    let i = c.in-Some.i in
    let y = c.in-Some.y in
    let st = c.in-Some.ensures.some.0 in
    let e : reverse s.stack.items ≡ y ∷ i ∷ x ∷ st = ap reverse (sym c.deref.ensures.value) ∙ c.in-Some.ensures.some.1 in
    stops
    s
    s
    a
    c.stopped.new.area
    c.in-Err.halt
    (λ w. and_then (reach R.look p x w) (λ o v. and_then (index_in p o.body i v) (λ n u. write_cell o n y u)))
    (λ _ v. next (state_with s a cs ts) st v)
    c.stopped.result
    _
    cs
    ts
    (set_elem_rule R code p (state_with s a cs ts) x i y st e)
    (halts_first a c.in-Err.halt (λ w. reach R.look p x w) (λ o v. and_then (index_in p o.body i v) (λ n u. write_cell o n y u)) c.in-Err.ensures.err)
    (c.stopped.ensures.answers s)
    are

pub returns-in-Err-index_in-clause-ok : goal.returns-in-Err-index_in-clause-ok
returns-in-Err-index_in-clause-ok c = λ code cs ts are.
    let s = c.args.state.now in
    let a = c.args.area.now in
    let R = reads_of a in
    let p = c.args.at in
    let x = c.in-Some.array in
    let i = c.in-Some.i in
    let y = c.in-Some.y in
    let st = c.in-Some.ensures.some.0 in
    let e : reverse s.stack.items ≡ y ∷ i ∷ x ∷ st = ap reverse (sym c.deref.ensures.value) ∙ c.in-Some.ensures.some.1 in
    let o = c.in-Ok.object in
    let body = c.in-Ok.body.now in
    let r = reached_at o body in
    stops
    s
    s
    a
    c.stopped-in-Err-index_in.new.area
    c.in-Err-index_in.halt
    (λ w. and_then (reach R.look p x w) (λ o v. and_then (index_in p o.body i v) (λ n u. write_cell o n y u)))
    (λ _ v. next (state_with s a cs ts) st v)
    c.stopped-in-Err-index_in.result
    _
    cs
    ts
    (set_elem_rule R code p (state_with s a cs ts) x i y st e)
    (halts_then a a r c.in-Err-index_in.halt (λ w. reach R.look p x w) (λ o v. and_then (index_in p o.body i v) (λ n u. write_cell o n y u)) c.in-Ok.ensures.ok (halts_first a c.in-Err-index_in.halt (index_in p body i) (λ n u. write_cell r n y u) (any_halts a c.in-Err-index_in.halt (index_in p body i) c.in-Err-index_in.ensures.err)))
    (c.stopped-in-Err-index_in.ensures.answers s)
    are

pub returns-in_ok-edit-in-Ok-index_in-clause-ok : goal.returns-in_ok-edit-in-Ok-index_in-clause-ok
returns-in_ok-edit-in-Ok-index_in-clause-ok c = λ code cs ts are.
    let s = c.args.state.now in
    let a = c.args.area.now in
    let R = reads_of a in
    let p = c.args.at in
    let x = c.in-Some.array in
    let i = c.in-Some.i in
    let y = c.in-Some.y in
    let st = c.in-Some.ensures.some.0 in
    let e : reverse s.stack.items ≡ y ∷ i ∷ x ∷ st = ap reverse (sym c.deref.ensures.value) ∙ c.in-Some.ensures.some.1 in
    let o = c.in-Ok.object in
    let body = c.in-Ok.body.now in
    let r = reached_at o body in
    let b = c.edit.new.self in
    let n = c.in-Ok-index_in.n in
    let has = c.in_ok-edit-in-Ok-index_in.ensures.ok body c.in-Ok.ensures.there in
    goes_on
    s
    c.advance.new.state
    a
    b
    (tt {0})
    (λ w. and_then (reach R.look p x w) (λ o v. and_then (index_in p o.body i v) (λ n u. write_cell o n y u)))
    (λ _. st)
    _
    cs
    ts
    (set_elem_rule R code p (state_with s a cs ts) x i y st e)
    (does_then a a b r (tt {0}) (λ w. reach R.look p x w) (λ o v. and_then (index_in p o.body i v) (λ n u. write_cell o n y u)) c.in-Ok.ensures.ok (does_then a a b n (tt {0}) (index_in p body i) (λ n u. write_cell r n y u) (any_does a n (index_in p body i) c.in-Ok-index_in.ensures.ok) (write_does a b o _ has)))
    c.advance.ensures.behind
    (ap (λ v. reverse v.items) c.advance.ensures.stack ∙ c.drop_three.ensures x i y st e)
    has.end
    are

pub returns-in_ok-edit-in-Ok-index_in-clause-kept : goal.returns-in_ok-edit-in-Ok-index_in-clause-kept
returns-in_ok-edit-in-Ok-index_in-clause-kept c = kept_by c.args.area.now c.edit.new.self c.in-Ok.object _ (c.in_ok-edit-in-Ok-index_in.ensures.ok c.in-Ok.body.now c.in-Ok.ensures.there)

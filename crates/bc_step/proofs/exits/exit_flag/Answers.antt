use Rattle.std.proofs.Common.{ap, refl, reverse}
use Rattle.std.specs.Prelude.{slice_get}
use Rattle.bc_mean.specs.Work.{and_then, parameter, set_flag}
use Rattle.bc_code.specs.Instructions.{next}
use Rattle.bc_step.specs.Area.{reads_of}
use Rattle.bc_step.specs.State.{state_with}
use Rattle.bc_step.specs.Parts.{reached_at}
use Rattle.bc_step.proofs.Parts.{does_then, goes_on, halts_first, kept_by, stops, write_does}
use Rattle.bc_step.proofs.exits.exit_flag.Goals as goal

pub returns-in-Err-clause-ok : goal.returns-in-Err-clause-ok
returns-in-Err-clause-ok c = λ code cs ts are.
    let s = c.args.state.now in
    let a = c.args.area.now in
    let R = reads_of a in
    let p = c.args.at in
    stops
    s
    s
    a
    c.stopped.new.area
    c.in-Err.halt
    (λ w. and_then (parameter R.look (slice_get R.objects c.args.p) w) (λ o w. set_flag o c.args.flag c.args.on w))
    (λ _ v. next (state_with s a cs ts) (reverse s.stack.items) v)
    c.stopped.result
    _
    cs
    ts
    (refl)
    (halts_first a c.in-Err.halt (λ w. parameter R.look (slice_get R.objects c.args.p) w) (λ o w. set_flag o c.args.flag c.args.on w) c.in-Err.ensures.err)
    (c.stopped.ensures.answers s)
    are

pub returns-in_ok-edit-in-Ok-clause-ok : goal.returns-in_ok-edit-in-Ok-clause-ok
returns-in_ok-edit-in-Ok-clause-ok c = λ code cs ts are.
    let s = c.args.state.now in
    let a = c.args.area.now in
    let R = reads_of a in
    let p = c.args.at in
    let o = c.in-Ok.object in
    let body = c.in-Ok.field-0-1.now in
    let b = c.edit.new.self in
    let has = c.in_ok-edit-in-Ok.ensures.ok body c.in-Ok.ensures.there in
    goes_on
    s
    c.advance.new.state
    a
    b
    (tt {0})
    (λ w. and_then (parameter R.look (slice_get R.objects c.args.p) w) (λ o w. set_flag o c.args.flag c.args.on w))
    (λ _. reverse s.stack.items)
    _
    cs
    ts
    (refl)
    (does_then a a b (reached_at o body) (tt {0}) (λ w. parameter R.look (slice_get R.objects c.args.p) w) (λ o w. set_flag o c.args.flag c.args.on w) c.in-Ok.ensures.ok (write_does a b o _ has))
    c.advance.ensures.behind
    (ap (λ v. reverse v.items) c.advance.ensures.stack)
    has.end
    are

pub returns-in_ok-edit-in-Ok-clause-kept : goal.returns-in_ok-edit-in-Ok-clause-kept
returns-in_ok-edit-in-Ok-clause-kept c = kept_by c.args.area.now c.edit.new.self c.in-Ok.object _ (c.in_ok-edit-in-Ok.ensures.ok c.in-Ok.field-0-1.now c.in-Ok.ensures.there)

use Rattle.std.proofs.Common.{None, ap, refl, reverse, sym}
use Rattle.std.specs.Prelude.{slice_get}
use Rattle.bc_data.specs.declared.run.TagRef.{TagRef}
use Rattle.bc_mean.specs.Work.{Reached, Work, and_then, known, parameter, unbind}
use Rattle.bc_code.specs.Instructions.{next}
use Rattle.bc_step.specs.Area.{reads_of}
use Rattle.bc_step.specs.Parts.{reached_at}
use Rattle.bc_step.specs.State.{state_with, tags_in}
use Rattle.bc_step.specs.declared.answer.Halt.TheVariants as halt
use Rattle.bc_step.proofs.Parts.{does_then, goes_on, halts_first, halts_then, kept_by, known_does, stops, unknown_halts, write_does}
use Rattle.bc_step.proofs.exits.exit_clear.Goals as goal

pub returns-in-Err-clause-ok : goal.returns-in-Err-clause-ok
returns-in-Err-clause-ok c = λ code cs ts are.
    let s = c.args.state.now in
    let a = c.args.area.now in
    let R = reads_of a in
    let p = c.args.at in
    let tags = slice_get (tags_in (reverse s.callers.items) s.tags.items) c.args.variable in
    let cleared = λ (r : Reached) (t : TagRef) (w : Work). unbind r t w in
    stops
    s
    s
    a
    c.stopped.new.area
    c.in-Err.halt
    (λ w. and_then (parameter R.look (slice_get R.objects c.args.p) w) (λ r w. and_then (known tags w) (cleared r)))
    (λ _ v. next (state_with s a cs ts) (reverse s.stack.items) v)
    c.stopped.result
    _
    cs
    ts
    (refl)
    (halts_first a c.in-Err.halt (λ w. parameter R.look (slice_get R.objects c.args.p) w) (λ r w. and_then (known tags w) (cleared r)) c.in-Err.ensures.err)
    (c.stopped.ensures.answers s)
    are

pub returns-in-None-clause-ok : goal.returns-in-None-clause-ok
returns-in-None-clause-ok c = λ code cs ts are.
    let s = c.args.state.now in
    let a = c.args.area.now in
    let R = reads_of a in
    let p = c.args.at in
    let tags = slice_get (tags_in (reverse s.callers.items) s.tags.items) c.args.variable in
    let cleared = λ (r : Reached) (t : TagRef) (w : Work). unbind r t w in
    let o = c.in-Ok.object in
    let body = c.in-Ok.field-0-1.now in
    stops
    s
    s
    a
    a
    halt.Wrong
    (λ w. and_then (parameter R.look (slice_get R.objects c.args.p) w) (λ r w. and_then (known tags w) (cleared r)))
    (λ _ v. next (state_with s a cs ts) (reverse s.stack.items) v)
    None
    _
    cs
    ts
    (refl)
    (halts_then a a (reached_at o body) halt.Wrong (λ w. parameter R.look (slice_get R.objects c.args.p) w) (λ r w. and_then (known tags w) (cleared r)) c.in-Ok.ensures.ok (halts_first a halt.Wrong (λ w. known tags w) (cleared (reached_at o body)) (unknown_halts a halt.Wrong tags refl (sym c.in-None.ensures))))
    (λ w none. none)
    are

pub returns-in_ok-edit-in-Some-clause-ok : goal.returns-in_ok-edit-in-Some-clause-ok
returns-in_ok-edit-in-Some-clause-ok c = λ code cs ts are.
    let s = c.args.state.now in
    let a = c.args.area.now in
    let R = reads_of a in
    let p = c.args.at in
    let tags = slice_get (tags_in (reverse s.callers.items) s.tags.items) c.args.variable in
    let cleared = λ (r : Reached) (t : TagRef) (w : Work). unbind r t w in
    let o = c.in-Ok.object in
    let body = c.in-Ok.field-0-1.now in
    let tag = c.in-Some.tag in
    let b = c.edit.new.self in
    let has = c.in_ok-edit-in-Some.ensures.ok body c.in-Ok.ensures.there in
    goes_on
    s
    c.advance.new.state
    a
    b
    (tt {0})
    (λ w. and_then (parameter R.look (slice_get R.objects c.args.p) w) (λ r w. and_then (known tags w) (cleared r)))
    (λ _. reverse s.stack.items)
    _
    cs
    ts
    (refl)
    (does_then a a b (reached_at o body) (tt {0}) (λ w. parameter R.look (slice_get R.objects c.args.p) w) (λ r w. and_then (known tags w) (cleared r)) c.in-Ok.ensures.ok (does_then a a b tag (tt {0}) (λ w. known tags w) (cleared (reached_at o body)) (known_does a tag tags (sym c.in-Some.ensures)) (write_does a b o _ has)))
    c.advance.ensures.behind
    (ap (λ v. reverse v.items) c.advance.ensures.stack)
    has.end
    are

pub returns-in_ok-edit-in-Some-clause-kept : goal.returns-in_ok-edit-in-Some-clause-kept
returns-in_ok-edit-in-Some-clause-kept c = kept_by c.args.area.now c.edit.new.self c.in-Ok.object _ (c.in_ok-edit-in-Some.ensures.ok c.in-Ok.field-0-1.now c.in-Ok.ensures.there)

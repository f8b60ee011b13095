use Rattle.std.proofs.Common.{refl, reverse}
use Rattle.std.specs.Prelude.{slice_get}
use Rattle.bc_mean.specs.Work.{and_then, bind, known, parameter}
use Rattle.bc_code.specs.Instructions.{next}
use Rattle.bc_step.specs.Area.{reads_of}
use Rattle.bc_step.specs.State.{state_with, tags_in}
use Rattle.bc_step.proofs.Parts.{halts_first, stops}
use Rattle.bc_step.proofs.TagRules.{ok_then}
use Rattle.bc_step.proofs.exits.exit_add.Goals as goal

pub returns-in-Err-clause-ok : goal.returns-in-Err-clause-ok
returns-in-Err-clause-ok c = λ code cs ts are.
    let s = c.args.state.now in
    let a = c.args.area.now in
    let R = reads_of a in
    let p = c.args.at in
    stops
    s
    s
    a
    c.stopped.new.area
    c.in-Err.halt
    (λ w. and_then (parameter R.look (slice_get R.objects c.args.p) w) (λ o w. and_then (known (slice_get (tags_in (reverse s.callers.items) s.tags.items) c.args.variable) w) (λ t v. bind p o t v)))
    (λ _ v. next (state_with s a cs ts) (reverse s.stack.items) v)
    c.stopped.result
    _
    cs
    ts
    (refl)
    (halts_first a c.in-Err.halt (λ w. parameter R.look (slice_get R.objects c.args.p) w) (λ o w. and_then (known (slice_get (tags_in (reverse s.callers.items) s.tags.items) c.args.variable) w) (λ t v. bind p o t v)) c.in-Err.ensures.err)
    (c.stopped.ensures.answers s)
    are

pub returns-in-Ok-clause-ok : goal.returns-in-Ok-clause-ok
returns-in-Ok-clause-ok c =
    let R = reads_of c.args.area.now in
    ok_then _ _ c.bind_variable.result c.bind_variable.ensures.ok (λ did bound code cs ts are.
    bound (λ w. parameter R.look (slice_get R.objects c.args.p) w) c.in-Ok.field-0-1.now cs ts c.in-Ok.ensures.there c.in-Ok.ensures.ok are)

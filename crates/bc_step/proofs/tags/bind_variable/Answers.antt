use Rattle.std.proofs.Common.{ap, false, refl, reverse, subst, sym, true}
use Rattle.std.specs.Prelude.{slice_get}
use Rattle.bc_data.specs.declared.run.FaultKind.TheVariants as fault
use Rattle.bc_data.specs.declared.run.TagRef.{TagRef}
use Rattle.bc_mean.specs.Work.{Reached, Work, and_then, bind, known}
use Rattle.bc_code.specs.Instructions.{next}
use Rattle.bc_step.specs.Parts.{Binds, reached_at}
use Rattle.bc_step.specs.State.{state_with, tags_in}
use Rattle.bc_step.specs.declared.answer.Halt.TheVariants as halt
use Rattle.bc_step.proofs.Parts.{does_then, faults_so, goes_on, halts_then, known_does}
use Rattle.bc_step.proofs.tags.bind_variable.Goals as goal

pub returns-then-branch-clause-ok : goal.returns-then-branch-clause-ok
returns-then-branch-clause-ok c = λ find body cs ts is found are.
    let s = c.args.state.now in
    let a = c.args.area.now in
    let p = c.args.at in
    let o = c.args.object in
    let tag = c.in-Some.tag in
    let b = c.bind.new.area in
    let bound = λ (r : Reached) (t : TagRef) (w : Work). bind p r t w in
    let tags = slice_get (tags_in (reverse s.callers.items) s.tags.items) c.args.variable in
    let known_tag = known_does a tag tags (sym c.in-Some.ensures) in
    let binds : Binds true p o body tag a b = subst (λ z. Binds z p o body tag a b) c.if-branch.true (c.in_ok-bind.ensures.ok p body is) in
    goes_on
    s
    c.advance.new.state
    a
    b
    (tt {0})
    (λ w. and_then (find w) (λ r w. and_then (known tags w) (bound r)))
    (λ _. reverse s.stack.items)
    _
    cs
    ts
    (refl)
    (does_then a a b (reached_at o body) (tt {0}) find (λ r w. and_then (known tags w) (bound r)) found (does_then a a b tag (tt {0}) (λ w. known tags w) (bound (reached_at o body)) known_tag binds))
    c.advance.ensures.behind
    (ap (λ v. reverse v.items) c.advance.ensures.stack)
    c.in_ok-bind.ensures.end
    are

pub returns-else-branch-clause-ok : goal.returns-else-branch-clause-ok
returns-else-branch-clause-ok c = λ find body cs ts is found are.
    let s = c.args.state.now in
    let a = c.args.area.now in
    let p = c.args.at in
    let o = c.args.object in
    let tag = c.in-Some.tag in
    let b = c.bind.new.area in
    let bound = λ (r : Reached) (t : TagRef) (w : Work). bind p r t w in
    let tags = slice_get (tags_in (reverse s.callers.items) s.tags.items) c.args.variable in
    let known_tag = known_does a tag tags (sym c.in-Some.ensures) in
    let h = halt.Fault (record { kind = fault.TagSlots; at = p }) in
    let binds : Binds false p o body tag a b = subst (λ z. Binds z p o body tag a b) c.if-branch.false (c.in_ok-bind.ensures.ok p body is) in
    faults_so
    s
    _
    a
    c.faulted.new.area
    c.faulted.result
    p
    _
    (λ w. and_then (find w) (λ r w. and_then (known tags w) (bound r)))
    (λ _ v. next (state_with s a cs ts) (reverse s.stack.items) v)
    _
    cs
    ts
    (refl)
    (halts_then a a (reached_at o body) h find (λ r w. and_then (known tags w) (bound r)) found (halts_then a a tag h (λ w. known tags w) (bound (reached_at o body)) known_tag binds.0))
    (c.faulted.ensures.answers s _ a)
    are

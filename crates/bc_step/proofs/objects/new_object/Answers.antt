use Rattle.std.proofs.Common.{◌∙◌, ◌∷◌, Some, None, ap, reverse, subst, sym}
use Rattle.std.specs.Prelude.{slice_get}
use Rattle.bc_data.specs.declared.run.FaultKind.TheVariants as fault
use Rattle.bc_data.specs.declared.run.Value.TheVariants as value
use Rattle.bc_mean.specs.Work.{Gives, Work, and_then, known, make}
use Rattle.bc_code.specs.declared.code.ClassCode.{ClassCode}
use Rattle.bc_code.specs.Instructions.{new_body, next}
use Rattle.bc_step.specs.Area.{MakesObject, reads_of}
use Rattle.bc_step.specs.State.{state_with}
use Rattle.bc_step.specs.declared.answer.Halt.TheVariants as halt
use Rattle.bc_step.proofs.ObjectRules.{new_object_rule}
use Rattle.bc_step.proofs.Parts.{does_then, faults_so, gives, goes_on, halts_first, halts_then, known_does, made_end, make_does, make_halts}
use Rattle.bc_step.proofs.objects.new_object.Goals as goal

pub returns-in-None-clause-ok : goal.returns-in-None-clause-ok
returns-in-None-clause-ok c = λ cs ts are.
    let s = c.args.state.now in
    let a = c.args.area.now in
    let R = reads_of a in
    let p = c.args.at in
    let k = c.in-Some.k.now in
    let b = c.make.new.self in
    let find = λ (w : Work). known (slice_get c.args.code.now.classes c.args.class) w in
    let build = λ (k : ClassCode) (w : Work). make p (new_body c.args.class k) w in
    let made : MakesObject None (new_body c.args.class k) a b = subst (λ o. MakesObject o (new_body c.args.class k) a b) c.in-None.is (subst (λ d. MakesObject c.in_ok-make.field-0 d a b) c.in_ok-body.ensures c.in_ok-make.ensures.ok) in
    let h = halt.Fault (record { kind = fault.Size; at = p }) in
    faults_so
    s
    _
    a
    c.faulted.new.area
    c.faulted.result
    p
    _
    (λ w. and_then (and_then (known (slice_get c.args.code.now.classes c.args.class) w) (λ k w. make p (new_body c.args.class k) w)) (λ n w. Gives (value.New n) w))
    (λ x v. next (state_with s a cs ts) (x ∷ reverse s.stack.items) v)
    _
    cs
    ts
    (new_object_rule R c.args.code.now p (state_with s a cs ts) c.args.class)
    (halts_first a h (λ w. and_then (known (slice_get c.args.code.now.classes c.args.class) w) (λ k w. make p (new_body c.args.class k) w)) (λ n w. Gives (value.New n) w) (halts_then a a k h find build (known_does a k _ (sym c.in-Some.ensures)) (make_halts a b p (new_body c.args.class k) made)))
    (c.faulted.ensures.answers s _ a)
    are

pub returns-in-Some-2-clause-ok : goal.returns-in-Some-2-clause-ok
returns-in-Some-2-clause-ok c = λ cs ts are.
    let s = c.args.state.now in
    let a = c.args.area.now in
    let R = reads_of a in
    let p = c.args.at in
    let k = c.in-Some.k.now in
    let b = c.make.new.self in
    let find = λ (w : Work). known (slice_get c.args.code.now.classes c.args.class) w in
    let build = λ (k : ClassCode) (w : Work). make p (new_body c.args.class k) w in
    let n = c.in-Some-2.n in
    let made : MakesObject (Some n) (new_body c.args.class k) a b = subst (λ o. MakesObject o (new_body c.args.class k) a b) c.in-Some-2.is (subst (λ d. MakesObject c.in_ok-make.field-0 d a b) c.in_ok-body.ensures c.in_ok-make.ensures.ok) in
    goes_on
    s
    c.advance.new.state
    a
    b
    (value.New n)
    (λ w. and_then (and_then (known (slice_get c.args.code.now.classes c.args.class) w) (λ k w. make p (new_body c.args.class k) w)) (λ n w. Gives (value.New n) w))
    (λ x. x ∷ reverse s.stack.items)
    _
    cs
    ts
    (new_object_rule R c.args.code.now p (state_with s a cs ts) c.args.class)
    (does_then a b b n (value.New n) (λ w. and_then (known (slice_get c.args.code.now.classes c.args.class) w) (λ k w. make p (new_body c.args.class k) w)) (λ n w. Gives (value.New n) w) (does_then a a b k n find build (known_does a k _ (sym c.in-Some.ensures)) (make_does a b p (new_body c.args.class k) n made)) (gives b (value.New n)))
    c.advance.ensures.behind
    (ap (λ v. reverse v.items) c.advance.ensures.stack ∙ c.push_within.ensures ∙ ap (λ l. value.New n ∷ reverse l) c.reserve.ensures.items)
    (made_end a b _ n made)
    are

use Rattle.std.proofs.Common.{◌≡◌, ◌∙◌, ◌+◌, ◌-◌, [], ◌<◌, ◌≤◌, ◌∷◌, ◌++◌, ap, sym, refl, subst, suc, arith, length, take, drop, pos}
use Rattle.std.specs.Prelude.{slice_get, replicate}
use Rattle.bc_data.specs.declared.run.Value.TheVariants as value
use Rattle.bc_code.specs.declared.code.Unit.{Unit as CodeUnit}
use Rattle.bc_step.specs.Area.{work_with}
use Rattle.bc_step.specs.State.{HasRule, state_with}
use Rattle.bc_step.proofs.Opening.{depth, enter_turns, enter_deep, no_unit, no_code, opens, mapped_none, mapped_some}
use Rattle.bc_step.specs.declared.state.Call.{Call}
use Rattle.bc_step.proofs.Rules.{none_of}
use Rattle.bc_step.proofs.state.State.open.Goals as goal

pub returns-then-self-eq0-clause-ok : goal.returns-then-self-eq0-clause-ok
returns-then-self-eq0-clause-ok c = λ a cs ts st.
    let s = c.args.self.now in
    (work_with a s.turns cs ts, rw (enter_turns c.args.at (length (state_with s a cs ts).callers) a cs ts s.turns c.if-self-eq0.true) refl)

pub returns-then-len-ge-MOST_CALLS-clause-ok : goal.returns-then-len-ge-MOST_CALLS-clause-ok
returns-then-len-ge-MOST_CALLS-clause-ok c = λ a cs ts st.
    let s = c.args.self.now in
    let turns : s.turns ≡ suc (s.turns - 1) = omega arith in
    let deep : 100 ≤ length (state_with s a cs ts).callers = omega (arith, depth s a cs ts, c.len.ensures, c.if-len-ge-MOST_CALLS.true) in
    (work_with a (s.turns - 1) cs ts, rw (enter_deep c.args.at (length (state_with s a cs ts).callers) a cs ts s.turns (s.turns - 1) turns deep) refl)

pub returns-in_default-clause-ok : goal.returns-in_default-clause-ok
returns-in_default-clause-ok c = λ a cs ts st h.
    let s = c.args.self.now in
    let turns : s.turns ≡ suc (s.turns - 1) = omega arith in
    let few : length s.callers.items < 100 = omega (arith, c.len.ensures, c.if-len-ge-MOST_CALLS.false) in
    let xs = c.args.object ∷ take (c.args.to - c.args.from) (drop c.args.from s.stack.items) in
    subst HasRule (no_unit s a cs ts c.args.code.now c.args.at c.args.unit xs st (s.turns - 1) turns few (none_of c.args.unit c.in_default.not-Some)) h

pub returns-in_default-locals_of-clause-ok : goal.returns-in_default-locals_of-clause-ok
returns-in_default-locals_of-clause-ok c = λ a cs ts st h.
    let s = c.args.self.now in
    let turns : s.turns ≡ suc (s.turns - 1) = omega arith in
    let few : length s.callers.items < 100 = omega (arith, c.len.ensures, c.if-len-ge-MOST_CALLS.false) in
    let xs = c.args.object ∷ take (c.args.to - c.args.from) (drop c.args.from s.stack.items) in
    let none = mapped_none (λ (u : CodeUnit). u.locals) (slice_get c.args.code.now.units c.in-Some.unit) (sym (none_of c.locals_of.result c.in_default-locals_of.not-Some) ∙ c.locals_of.ensures) in
    subst HasRule (no_code s a cs ts c.args.code.now c.args.at c.args.unit xs st (s.turns - 1) turns few c.in-Some.unit c.in-Some.is none) h

pub returns-clause-ok : goal.returns-clause-ok
returns-clause-ok c = λ a cs ts.
    let s = c.args.self.now in
    let turns : s.turns ≡ suc (s.turns - 1) = omega arith in
    let few : length s.callers.items < 100 = omega (arith, c.len.ensures, c.if-len-ge-MOST_CALLS.false) in
    let xs = c.args.object ∷ take (c.args.to - c.args.from) (drop c.args.from s.stack.items) in
    let u = mapped_some (λ (u : CodeUnit). u.locals) (slice_get c.args.code.now.units c.in-Some.unit) c.in-Some-locals_of.locals (sym c.in-Some-locals_of.is ∙ c.locals_of.ensures) in
    let caller : Call = record (s.current) { next = s.current.next + 1 } in
    let pushed : c.push.new.self.items ≡ s.callers.items ++ caller ∷ [] = c.in-Ok.ensures.items ∙ ap (λ l. l ++ caller ∷ []) c.in_ok-reserve.ensures.items in
    let long : c.len-base.result ≡ length s.slots.items = omega arith in
    let filled : c.fill.new.slots.items ≡ s.slots.items ++ (xs ++ replicate (u.0.locals - length xs) (value.Int (pos 0))) =
    c.in_ok-fill.ensures.ok
    ∙ ap (λ l. s.slots.items ++ ((c.args.object ∷ l) ++ replicate (c.in-Some-locals_of.locals - length (c.args.object ∷ l)) (value.Int (pos 0)))) (ap (λ l. take (c.args.to - c.args.from) (drop c.args.from l)) c.deref.ensures.value)
    ∙ ap (λ k. s.slots.items ++ (xs ++ replicate (k - length xs) (value.Int (pos 0)))) u.2 in
    (ts, λ st. opens s a cs ts c.args.code.now c.args.at c.args.unit xs st (s.turns - 1) turns few c.in-Some.unit c.len-base.result u.0 c.push.new.self.items c.fill.new.slots.items c.in-Some.is u.1 pushed long filled)

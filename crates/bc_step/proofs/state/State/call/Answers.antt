use Rattle.std.proofs.Common.{◌≡◌, ◌∙◌, ◌+◌, ◌-◌, ◌≤◌, ◌∷◌, [], ap, sym, subst, arith, get_or, length, take, drop, reverse, List, length-drop}
use Rattle.std.proofs.lemmas.List.{length-reverse, take_all}
use Rattle.std.specs.Prelude.{Result, Option}
use Rattle.bc_data.specs.declared.run.Value.{Value}
use Rattle.bc_mean.specs.Work.{Reached, Work, and_then, enter, reach}
use Rattle.bc_code.specs.Instructions.{Did, behind, called, goes, method_of, on_one, taken}
use Rattle.bc_step.specs.declared.state.Did.{Did as Answer}
use Rattle.bc_step.specs.Area.{reads_of}
use Rattle.bc_step.specs.State.{HasRule, state_with}
use Rattle.bc_step.specs.Control.{Moves, Reaches}
use Rattle.bc_step.proofs.Rules.{call_short, call_taken, goes_then}
use Rattle.bc_step.proofs.Opening.{call_of, opened, not_opened}
use Rattle.bc_step.proofs.state.State.call.Goals as goal

pub returns-then-len-count-clause-ok : goal.returns-then-len-count-clause-ok
returns-then-len-count-clause-ok c = λ cs ts h.
    let s = c.args.self.now in
    let a = c.args.area.now in
    let S = state_with s a cs ts in
    let k : List Value → Value → List Value → Did =
    λ xs x st. goes (and_then (reach (reads_of a).look c.args.at x S.work) (λ o w. enter c.args.at (length S.callers) w)) (λ _ v. called c.args.code.now (method_of c.args.code.now c.args.class c.args.method) (x ∷ xs) (behind S ∷ S.callers) st v) in
    let short : length (reverse s.stack.items) ≤ c.args.count = omega (arith, length-reverse s.stack.items, c.if-len-count.true) in
    subst HasRule (call_short c.args.count [] (reverse s.stack.items) k short) h

pub returns-in-Err-clause-ok : goal.returns-in-Err-clause-ok
returns-in-Err-clause-ok c = λ cs ts.
    let s = c.args.self.now in
    let a = c.args.area.now in
    let S = state_with s a cs ts in
    let k : List Value → Value → List Value → Did =
    λ xs x st. goes (and_then (reach (reads_of a).look c.args.at x S.work) (λ o w. enter c.args.at (length S.callers) w)) (λ _ v. called c.args.code.now (method_of c.args.code.now c.args.class c.args.method) (x ∷ xs) (behind S ∷ S.callers) st v) in
    let x = c.index-object.result.now in
    let place = c.len-len.result - 1 - c.args.count in
    let long : place + c.args.count + 1 ≡ length s.stack.items = omega (arith, c.if-len-count.false) in
    let is : x ≡ get_or s.stack.items place x = c.index-object.ensures in
    let xs = x ∷ drop (place + 1) s.stack.items in
    let st = reverse (take place s.stack.items) in
    let go : Reached → Work → Did = λ o w. goes (enter c.args.at (length S.callers) w) (λ _ v. called c.args.code.now (method_of c.args.code.now c.args.class c.args.method) xs (behind S ∷ S.callers) st v) in
    let rule : taken c.args.count [] (reverse s.stack.items) (λ ys rest. on_one rest (k ys)) ≡ goes (reach (reads_of a).look c.args.at x S.work) go =
    call_taken s.stack.items x c.args.count place long is k
    ∙ goes_then (reach (reads_of a).look c.args.at x S.work) (λ o w. enter c.args.at (length S.callers) w) (λ _ v. called c.args.code.now (method_of c.args.code.now c.args.class c.args.method) xs (behind S ∷ S.callers) st v) in
    let stops = subst (λ (o : Result (Unit {0}) (Option Answer)). Reaches o a s.turns cs (reach (reads_of a).look c.args.at x S.work)) c.in-Err.is (c.reach.ensures s.turns cs ts) in
    subst (Moves c.in-Err.did s s a cs) (sym rule) (stops s go)

pub returns-in-Ok-2-clause-ok : goal.returns-in-Ok-2-clause-ok
returns-in-Ok-2-clause-ok c = λ cs ts.
    let s = c.args.self.now in
    let a = c.args.area.now in
    let S = state_with s a cs ts in
    let k : List Value → Value → List Value → Did =
    λ xs x st. goes (and_then (reach (reads_of a).look c.args.at x S.work) (λ o w. enter c.args.at (length S.callers) w)) (λ _ v. called c.args.code.now (method_of c.args.code.now c.args.class c.args.method) (x ∷ xs) (behind S ∷ S.callers) st v) in
    let x = c.index-object.result.now in
    let place = c.len-len.result - 1 - c.args.count in
    let long : place + c.args.count + 1 ≡ length s.stack.items = omega (arith, c.if-len-count.false) in
    let is : x ≡ get_or s.stack.items place x = c.index-object.ensures in
    let xs = x ∷ drop (place + 1) s.stack.items in
    let st = reverse (take place s.stack.items) in
    let go : Reached → Work → Did = λ o w. goes (enter c.args.at (length S.callers) w) (λ _ v. called c.args.code.now (method_of c.args.code.now c.args.class c.args.method) xs (behind S ∷ S.callers) st v) in
    let rule : taken c.args.count [] (reverse s.stack.items) (λ ys rest. on_one rest (k ys)) ≡ goes (reach (reads_of a).look c.args.at x S.work) go =
    call_taken s.stack.items x c.args.count place long is k
    ∙ goes_then (reach (reads_of a).look c.args.at x S.work) (λ o w. enter c.args.at (length S.callers) w) (λ _ v. called c.args.code.now (method_of c.args.code.now c.args.class c.args.method) xs (behind S ∷ S.callers) st v) in
    let there = subst (λ (o : Result (Unit {0}) (Option Answer)). Reaches o a s.turns cs (reach (reads_of a).look c.args.at x S.work)) c.in-Ok.is (c.reach.ensures s.turns cs ts) in
    let many : length (drop (place + 1) s.stack.items) ≤ c.len-len.result - (place + 1) = omega (arith, length-drop (place + 1) s.stack.items, c.if-len-count.false) in
    let whole : drop (place + 1) s.stack.items ≡ take (c.len-len.result - (place + 1)) (drop (place + 1) s.stack.items) = sym (take_all (c.len-len.result - (place + 1)) (drop (place + 1) s.stack.items) many) in
    let opening : taken c.args.count [] (reverse s.stack.items) (λ ys rest. on_one rest (k ys)) ≡ call_of s a cs there.1 c.args.code.now c.args.at c.in_ok-unit-in-Ok.unit (x ∷ take (c.len-len.result - (place + 1)) (drop (place + 1) s.stack.items)) st =
    rule
    ∙ ap (λ g. goes g go) there.2
    ∙ ap (λ u. call_of s a cs there.1 c.args.code.now c.args.at u xs st) (sym c.in_ok-unit-in-Ok.ensures)
    ∙ ap (λ l. call_of s a cs there.1 c.args.code.now c.args.at c.in_ok-unit-in-Ok.unit (x ∷ l) st) whole in
    let stack : st ≡ reverse c.truncate.new.self.items = ap reverse (ap (λ v. take place v.items) (sym c.open.ensures.stack) ∙ sym c.truncate.ensures.items) in
    opened s c.open.new.self a cs _ c.in_ok-open-in-Ok.field-0 c.in-Ok-2.field-0 c.in-Ok-2.is (c.in_ok-open-in-Ok.ensures.ok a cs there.1) _ st c.truncate.new.self.items opening stack

pub returns-in-Err-2-clause-ok : goal.returns-in-Err-2-clause-ok
returns-in-Err-2-clause-ok c = λ cs ts.
    let s = c.args.self.now in
    let a = c.args.area.now in
    let S = state_with s a cs ts in
    let k : List Value → Value → List Value → Did =
    λ xs x st. goes (and_then (reach (reads_of a).look c.args.at x S.work) (λ o w. enter c.args.at (length S.callers) w)) (λ _ v. called c.args.code.now (method_of c.args.code.now c.args.class c.args.method) (x ∷ xs) (behind S ∷ S.callers) st v) in
    let x = c.index-object.result.now in
    let place = c.len-len.result - 1 - c.args.count in
    let long : place + c.args.count + 1 ≡ length s.stack.items = omega (arith, c.if-len-count.false) in
    let is : x ≡ get_or s.stack.items place x = c.index-object.ensures in
    let xs = x ∷ drop (place + 1) s.stack.items in
    let st = reverse (take place s.stack.items) in
    let go : Reached → Work → Did = λ o w. goes (enter c.args.at (length S.callers) w) (λ _ v. called c.args.code.now (method_of c.args.code.now c.args.class c.args.method) xs (behind S ∷ S.callers) st v) in
    let rule : taken c.args.count [] (reverse s.stack.items) (λ ys rest. on_one rest (k ys)) ≡ goes (reach (reads_of a).look c.args.at x S.work) go =
    call_taken s.stack.items x c.args.count place long is k
    ∙ goes_then (reach (reads_of a).look c.args.at x S.work) (λ o w. enter c.args.at (length S.callers) w) (λ _ v. called c.args.code.now (method_of c.args.code.now c.args.class c.args.method) xs (behind S ∷ S.callers) st v) in
    let there = subst (λ (o : Result (Unit {0}) (Option Answer)). Reaches o a s.turns cs (reach (reads_of a).look c.args.at x S.work)) c.in-Ok.is (c.reach.ensures s.turns cs ts) in
    let many : length (drop (place + 1) s.stack.items) ≤ c.len-len.result - (place + 1) = omega (arith, length-drop (place + 1) s.stack.items, c.if-len-count.false) in
    let whole : drop (place + 1) s.stack.items ≡ take (c.len-len.result - (place + 1)) (drop (place + 1) s.stack.items) = sym (take_all (c.len-len.result - (place + 1)) (drop (place + 1) s.stack.items) many) in
    let opening : taken c.args.count [] (reverse s.stack.items) (λ ys rest. on_one rest (k ys)) ≡ call_of s a cs there.1 c.args.code.now c.args.at c.in_ok-unit-in-Ok.unit (x ∷ take (c.len-len.result - (place + 1)) (drop (place + 1) s.stack.items)) st =
    rule
    ∙ ap (λ g. goes g go) there.2
    ∙ ap (λ u. call_of s a cs there.1 c.args.code.now c.args.at u xs st) (sym c.in_ok-unit-in-Ok.ensures)
    ∙ ap (λ l. call_of s a cs there.1 c.args.code.now c.args.at c.in_ok-unit-in-Ok.unit (x ∷ l) st) whole in
    not_opened s c.open.new.self a cs _ c.in_ok-open-in-Ok.field-0 c.in-Err-2.did c.in-Err-2.is (c.in_ok-open-in-Ok.ensures.ok a cs there.1) _ st opening

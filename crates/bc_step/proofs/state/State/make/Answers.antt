use Rattle.std.proofs.Common.{◌≡◌, ◌∙◌, ◌+◌, ◌-◌, ◌<◌, ◌≤◌, ◌∷◌, [], ap, sym, subst, arith, get_or, length, take, drop, reverse, List}
use Rattle.std.specs.Prelude.{slice_set}
use Rattle.std.proofs.lemmas.List.{length-reverse, take_more_set}
use Rattle.bc_data.specs.declared.run.Value.{Value}
use Rattle.bc_code.specs.Instructions.{Did, on_one, taken, maker_of}
use Rattle.bc_step.specs.State.{HasRule}
use Rattle.bc_step.proofs.Rules.{make_short, make_taken}
use Rattle.bc_step.proofs.Opening.{call_of, opened, not_opened}
use Rattle.bc_step.proofs.Stacks.{more_turned}
use Rattle.bc_step.proofs.state.State.make.Goals as goal

pub returns-then-len-count-clause-ok : goal.returns-then-len-count-clause-ok
returns-then-len-count-clause-ok c = λ R a cs ts h.
    let s = c.args.self.now in
    let short : length (reverse s.stack.items) ≤ c.args.count = omega (arith, length-reverse s.stack.items, c.if-len-count.true) in
    subst HasRule (make_short c.args.count (reverse s.stack.items) (λ x xs st. call_of s a cs ts c.args.code.now c.args.at (maker_of c.args.code.now c.args.class) (x ∷ xs) (x ∷ st)) short) h

pub returns-in-Ok-clause-ok : goal.returns-in-Ok-clause-ok
returns-in-Ok-clause-ok c = λ R a cs ts.
    let s = c.args.self.now in
    let x = c.index-object.result.now in
    let from = c.len-len.result - 1 - c.args.count in
    let long : from + c.args.count + 1 ≡ length s.stack.items = omega (arith, c.if-len-count.false) in
    let place : c.len-len.result - 1 ≡ from + c.args.count = omega (arith, c.if-len-count.false) in
    let is : x ≡ get_or s.stack.items (from + c.args.count) x = c.index-object.ensures ∙ ap (λ n. get_or s.stack.items n x) place in
    let many : c.args.count ≡ c.len-len.result - 1 - from = omega (arith, c.if-len-count.false) in
    let within : from < length s.stack.items = omega (arith, long) in
    let k : Value → List Value → List Value → Did = λ x xs st. call_of s a cs ts c.args.code.now c.args.at (maker_of c.args.code.now c.args.class) (x ∷ xs) (x ∷ st) in
    let st = x ∷ reverse (take from s.stack.items) in
    let rule : on_one (reverse s.stack.items) (λ y rest. taken c.args.count [] rest (k y)) ≡ call_of s a cs ts c.args.code.now c.args.at c.maker_unit.result (x ∷ take (c.len-len.result - 1 - from) (drop from s.stack.items)) st =
    make_taken s.stack.items x c.args.count from long is k
    ∙ ap (λ m. k x (take m (drop from s.stack.items)) (reverse (take from s.stack.items))) many
    ∙ ap (λ u. call_of s a cs ts c.args.code.now c.args.at u (x ∷ take (c.len-len.result - 1 - from) (drop from s.stack.items)) st) (sym c.maker_unit.ensures) in
    let stack : st ≡ reverse c.truncate.new.self.items =
    sym (more_turned (take from s.stack.items) x) ∙ ap reverse (sym (take_more_set s.stack.items from x within) ∙ ap (λ v. take (from + 1) (slice_set v.items from x)) (sym c.open.ensures.stack) ∙ sym c.truncate.ensures.items) in
    opened s c.open.new.self a cs _ c.in_ok-open.field-0 c.in-Ok.field-0 c.in-Ok.is (c.in_ok-open.ensures.ok a cs ts) _ st c.truncate.new.self.items rule stack

pub returns-in-Err-clause-ok : goal.returns-in-Err-clause-ok
returns-in-Err-clause-ok c = λ R a cs ts.
    let s = c.args.self.now in
    let x = c.index-object.result.now in
    let from = c.len-len.result - 1 - c.args.count in
    let long : from + c.args.count + 1 ≡ length s.stack.items = omega (arith, c.if-len-count.false) in
    let place : c.len-len.result - 1 ≡ from + c.args.count = omega (arith, c.if-len-count.false) in
    let is : x ≡ get_or s.stack.items (from + c.args.count) x = c.index-object.ensures ∙ ap (λ n. get_or s.stack.items n x) place in
    let many : c.args.count ≡ c.len-len.result - 1 - from = omega (arith, c.if-len-count.false) in
    let k : Value → List Value → List Value → Did = λ x xs st. call_of s a cs ts c.args.code.now c.args.at (maker_of c.args.code.now c.args.class) (x ∷ xs) (x ∷ st) in
    let st = x ∷ reverse (take from s.stack.items) in
    let rule : on_one (reverse s.stack.items) (λ y rest. taken c.args.count [] rest (k y)) ≡ call_of s a cs ts c.args.code.now c.args.at c.maker_unit.result (x ∷ take (c.len-len.result - 1 - from) (drop from s.stack.items)) st =
    make_taken s.stack.items x c.args.count from long is k
    ∙ ap (λ m. k x (take m (drop from s.stack.items)) (reverse (take from s.stack.items))) many
    ∙ ap (λ u. call_of s a cs ts c.args.code.now c.args.at u (x ∷ take (c.len-len.result - 1 - from) (drop from s.stack.items)) st) (sym c.maker_unit.ensures) in
    not_opened s c.open.new.self a cs _ c.in_ok-open.field-0 c.in-Err.did c.in-Err.is (c.in_ok-open.ensures.ok a cs ts) _ st rule

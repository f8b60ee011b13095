use Rattle.std.proofs.Common.{◌≡◌, ◌<◌, ◌≤◌, ◌||◌, ◌+◌, ℕ, Bool, length, [], List, take, get_or, ap, ◌∙◌, arith}
use Rattle.std.proofs.lemmas.List.{take_more}
use Rattle.bc_data.specs.declared.run.Invocation.{Invocation}
use Rattle.bc_mean.specs.Enabled.{all_enabled, is_enabled}
use Rattle.bc_mean.specs.Serial.{listed}
use Rattle.bc_params_search.specs.Tuples.{names}
use Rattle.bc_book_events.specs.Reshaped.{names_any}
use Rattle.bc_book_events.proofs.CommitFound.{names_any_push}
use Rattle.bc_book_lists.proofs.Adding.{adds_group, adds_none, many_enabled, naming, none_of_none}
use Rattle.bc_book_lists.proofs.search.add_naming.Goals as goal

pub loop-id-init : goal.loop-id-init
loop-id-init c P S of = adds_none (is_enabled P S) (names_any []) c.args.found.now.items (λ w. none_of_none w.objects)

pub loop-id-preserved : goal.loop-id-preserved
loop-id-preserved c P S of =
    let ids = c.args.reshaped.now in
    let i = c.loop-id.id-index in
    let id : ℕ = get_or c.args.reshaped.now c.loop-id.id-index 0 in
    let offered : c.as_slice.result.now ≡ c.in_ok-offered.offered = c.as_slice.ensures in
    let few : length c.in_ok-offered.offered < 262145 = omega (arith, c.len.ensures, c.if-len-gt-MOST.false) in
    adds_group (is_enabled P S) (names_any (take i ids)) (names id) (names_any (take (i + 1) ids))
    c.args.found.now.items c.loop-id.found.items c.add_all.new.found.items (c.loop-id.invariant P S of)
    (λ w.
    c.in_ok-add_all.ensures w
    ∙ ap (λ (b : Bool). listed c.loop-id.found.items w || b)
    (ap (λ (l : List Invocation). listed l w) offered ∙ naming P S id 262145 c.in_ok-offered.offered (c.in_ok-offered.ensures P S of.typed of.sets) few w))
    (λ w. ap (λ (l : List ℕ). names_any l w) (take_more ids i 0 c.loop-id-test.true) ∙ names_any_push (take i ids) id w)

pub returns-then-len-gt-MOST-clause-many : goal.returns-then-len-gt-MOST-clause-many
returns-then-len-gt-MOST-clause-many c e P S of =
    let many : length c.in_ok-offered.offered ≤ length (all_enabled P S) = many_enabled P S _ 262145 c.in_ok-offered.offered (c.in_ok-offered.ensures P S of.typed of.sets) in
    omega (arith, many, c.len.ensures, c.if-len-gt-MOST.true)

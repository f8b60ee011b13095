use Rattle.std.proofs.Common.{Bool, ◌||◌, ◌+◌, ℕ, [], List, filter, take, get_or, sym, ap, ◌∙◌}
use Rattle.std.proofs.lemmas.List.{take_more}
use Rattle.bc_data.specs.declared.run.Invocation.{Invocation}
use Rattle.bc_mean.specs.Enabled.{is_enabled}
use Rattle.bc_mean.specs.Serial.{has_failure, listed}
use Rattle.bc_failed.specs.Records.{touches}
use Rattle.bc_failed.proofs.Ordered.{order_exact}
use Rattle.bc_book_events.specs.Reshaped.{failures_dropped}
use Rattle.bc_book_lists.proofs.Adding.{adds_group, adds_none, dropped_none, dropped_push}
use Rattle.bc_book_lists.proofs.search.add_dropped.Goals as goal

pub loop-id-init : goal.loop-id-init
loop-id-init c P S of = adds_none (is_enabled P S) (has_failure (failures_dropped [] c.args.failures.now.failures)) c.args.found.now.items (dropped_none c.args.failures.now.failures)

pub loop-id-preserved : goal.loop-id-preserved
loop-id-preserved c P S of =
    let fs = c.args.failures.now.failures in
    let ids = c.args.changed.now in
    let i = c.loop-id.id-index in
    adds_group (is_enabled P S) (has_failure (failures_dropped (take i ids) fs)) (listed c.as_slice.result.now) (has_failure (failures_dropped (take (i + 1) ids) fs))
    c.args.found.now.items c.loop-id.found.items c.add_enabled.new.found.items (c.loop-id.invariant P S of) (c.in_ok-add_enabled.ensures P S of)
    (λ w.
    ap (λ (l : List ℕ). has_failure (failures_dropped l fs) w) (take_more ids i 0 c.loop-id-test.true)
    ∙ (dropped_push (take i ids) (get_or ids i 0) fs w
    ∙ ap (λ (b : Bool). has_failure (failures_dropped (take i ids) fs) w || b)
    (sym (order_exact.listed (filter (touches (get_or ids i 0)) fs) w) ∙ ap (λ (l : List Invocation). listed l w) (sym (c.as_slice.ensures ∙ c.in_ok-offered.ensures)))))

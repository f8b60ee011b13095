use Rattle.std.proofs.Common.{◌≡◌, Bool, false, ◌&&◌, ◌||◌, List, [], ◌∷◌, ap, ◌∙◌, arith}
use Rattle.bc_data.specs.declared.run.Invocation.{Invocation}
use Rattle.bc_mean.specs.Enabled.{is_enabled}
use Rattle.bc_mean.specs.Serial.{has_failure, listed, same_invocation}
use Rattle.bc_book_events.specs.Reshaped.{failures_dropped}
use Rattle.bc_book_lists.specs.Search.{IsListOf, is_new}
use Rattle.bc_book_lists.proofs.Ordering.{ok_weaker}
use Rattle.bc_book_lists.proofs.search.appended.Goals as goal

gathered : (n o d e s : Bool) → (((false || (n && o)) || (d && e)) || ((s || false) && e)) ≡ ((n && o) || ((d || s) && e))
gathered n o d e s = grind arith

pub returns : goal.returns
returns c =
    ok_weaker (IsListOf (listed c.add_enabled.new.found.items)) _ c.in_order.result
    (λ found is P S of. record {
      ascending = is.ascending;
      members = λ w.
          is.members w
          ∙ (c.in_ok-add_enabled.ensures P S of w
          ∙ (ap (λ (b : Bool). b || (listed (c.args.v ∷ []) w && is_enabled P S w)) (c.in_ok-add_dropped.ensures P S of w
          ∙ ap (λ (b : Bool). b || (has_failure (failures_dropped c.args.changed.now c.args.failures.now.failures) w && is_enabled P S w))
          (c.in_ok-add_new.ensures w ∙ ap (λ (l : List Invocation). listed l w || (listed c.args.behind.now w && is_new c.args.before.now c.args.pending.now.held w)) c.new-found.ensures.items))
          ∙ gathered (listed c.args.behind.now w) (is_new c.args.before.now c.args.pending.now.held w) (has_failure (failures_dropped c.args.changed.now c.args.failures.now.failures) w) (is_enabled P S w) (same_invocation w c.args.v)));
    })
    c.in_order.ensures

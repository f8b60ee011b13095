use Rattle.std.proofs.Common.{ℕ, List, take, get_or, sym, ap, ◌∙◌}
use Rattle.std.proofs.lemmas.List.{take_more}
use Rattle.bc_book_events.specs.Steps.{failures_left}
use Rattle.bc_book_lists.proofs.Dropping.{leaves_more, leaves_none}
use Rattle.bc_book_lists.proofs.drops.drop_touching_each.Goals as goal

pub loop-id-init : goal.loop-id-init
loop-id-init g c = leaves_none c.args.failures.now.failures

pub loop-id-preserved : goal.loop-id-preserved
loop-id-preserved g c =
    let ids = c.args.changed.now in
    let i = c.loop-id.id-index in
    c.drop_touching.ensures.failures
    ∙ leaves_more (take i ids) (get_or ids i 0) c.args.failures.now.failures c.loop-id.failures.failures c.loop-id.invariant
    ∙ ap (λ (l : List ℕ). failures_left l c.args.failures.now.failures) (sym (take_more ids i 0 c.loop-id-test.true))

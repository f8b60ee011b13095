use Rattle.std.proofs.Common.{rules}
use Rattle.std.proofs.lemmas.List.Sorted.{answers_always}
use Rattle.bc_failed.proofs.Ordered.{before, before_ranks, sorted_is}
use Rattle.bc_failed.proofs.order.sort.Goals as goal

pub returns : goal.returns
returns c =
    sorted_is _ _ (c.in_ok-sort_by.ensures.sorted before before_ranks (answers_always _ _ _ (λ f a r g h. search rules)))
    (c.in_ok-sort_by.ensures.stable before before_ranks (answers_always _ _ _ (λ f a r g h. search rules)))

use Rattle.std.proofs.Common.{rules}
use Rattle.std.proofs.lemmas.List.Sorted.{answers_always}
use Rattle.bc_book_lists.proofs.Ordering.{precedes_ranks}
use Rattle.bc_mean.specs.Orders.{precedes}
use Rattle.bc_book_lists.proofs.sorted.sort.Goals as goal

pub returns-clause-sorted : goal.returns-clause-sorted
returns-clause-sorted c = c.in_ok-sort_by.ensures.sorted precedes precedes_ranks (answers_always _ _ _ (λ f a r g h. search rules))

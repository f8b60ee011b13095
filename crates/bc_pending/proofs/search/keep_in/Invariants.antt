use Rattle.std.proofs.Common.{◌≡◌, ◌+◌, ◌++◌, take, drop, filter, count_by, deque_len}
use Rattle.std.specs.VecDeque.{deque_capacity}
use Rattle.std.proofs.lemmas.List.Filters.{FiltersInPlace}
use Rattle.bc_tally.specs.Counts.{Counts}
use Rattle.bc_pending.specs.Lists.{names, stays}
use Rattle.bc_pending.specs.Named.{named_in}
use Rattle.bc_pending.proofs.search.keep_in.Given as goal

abbrev pub invariant-loop-at : goal.invariant-loop-at
invariant-loop-at g l = record {
  filtered : FiltersInPlace (stays l.id (g.T.Keep.keeps l.test)) l.initial.items.items l.items.items l.kept l.at;
  len : deque_len l.items ≡ deque_len l.initial.items;
  capacity : deque_capacity l.items ≡ deque_capacity l.initial.items;
  steps : l.steps ≡ l.initial.steps + count_by (names l.id) (take l.at l.initial.items.items);
  named : Counts l.initial.named (named_in l.initial.items.items) → Counts l.named (named_in (filter (stays l.id (g.T.Keep.keeps l.test)) (take l.at l.initial.items.items)) ++ named_in (drop l.at l.initial.items.items));
}

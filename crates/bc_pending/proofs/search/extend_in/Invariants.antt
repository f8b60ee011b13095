use Rattle.std.proofs.Common.{◌≡◌, ◌+◌, ◌++◌, take, deque_len}
use Rattle.std.specs.VecDeque.{deque_capacity}
use Rattle.bc_tally.specs.Counts.{Counts}
use Rattle.bc_pending.specs.Named.{named_in}
use Rattle.bc_pending.proofs.search.extend_in.Given as goal

abbrev pub invariant-loop-v : goal.invariant-loop-v
invariant-loop-v l = record {
  items : l.items.items ≡ l.initial.items.items ++ take l.v-index l.more;
  len : deque_len l.items ≡ deque_len l.initial.items + l.v-index;
  capacity : deque_capacity l.items ≡ deque_capacity l.initial.items;
  named : Counts l.initial.named (named_in l.initial.items.items) → Counts l.named (named_in l.items.items);
}

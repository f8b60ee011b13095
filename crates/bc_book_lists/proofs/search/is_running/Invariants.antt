use Rattle.std.proofs.Common.{◌≡◌, false, take}
use Rattle.bc_book_events.specs.Book.{is_running}
use Rattle.bc_book_lists.proofs.search.is_running.Given as goal

abbrev pub invariant-loop-worker : goal.invariant-loop-worker
invariant-loop-worker l = is_running (take l.worker l.pending.held) l.v ≡ false

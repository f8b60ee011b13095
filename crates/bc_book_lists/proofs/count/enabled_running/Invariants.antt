use Rattle.std.proofs.Common.{◌≡◌, ◌≤◌, filter, length, take}
use Rattle.bc_data.specs.Typed.{TypedProgram}
use Rattle.bc_mean.specs.declared.plain.Plain.{Plain}
use Rattle.bc_mean.specs.Enabled.{is_enabled}
use Rattle.bc_book_events.specs.Book.{busy}
use Rattle.bc_book_lists.specs.Search.{AreOf}
use Rattle.bc_book_lists.proofs.count.enabled_running.Given as goal

abbrev pub invariant-loop-worker : goal.invariant-loop-worker
invariant-loop-worker l = record {
  value : (P : TypedProgram) (S : Plain) → AreOf P S l.params.kept → l.count ≡ length (filter (is_enabled P S) (busy (take l.worker l.pending.held)));
  few : l.count ≤ l.worker;
}

-- What a book keeps.
use Rattle.std.specs.Prelude.{◌≡◌, ◌≤◌, length}
use Rattle.bc_mean.specs.Work.{look_of}
use Rattle.bc_params_sets.specs.Kept.{AreSets}
use Rattle.bc_book_events.specs.Book.{BookState}
use Rattle.bc_book_events.specs.Sound.{IsSoundBook}
use Rattle.bc_book.specs.declared.book.Book.TheInside.{Inside}

-- the parts that contracts see
abbrev pub state_of : Inside → BookState
state_of i = record {
  program = i.program;
  input = i.input;
  limit = i.limit;
  store = i.store.plain;
  history = i.history.items;
  pending = i.pending.listed;
  running = i.pending.held;
  failures = i.failures.failures;
  stop = i.stop;
}

-- The book is sound and has 1 to 16 workers and a limit of commits, and the sets are those of its store.
pub record IsKept (i : Inside) : Type 0 where
  pub sound : IsSoundBook (state_of i)
  pub sets : AreSets i.program (look_of i.store.plain) i.store.plain.tags i.params.kept
  pub workers : i.workers ≡ length i.pending.held
  pub some : 1 ≤ i.workers
  pub few : i.workers ≤ 16
  pub limit : i.limit ≤ 1000000

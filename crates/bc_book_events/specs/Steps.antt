-- What events do to the book.
use Rattle.std.specs.Prelude.{ℕ, Bool, if◌then◌else◌, List, [], ◌∷◌, ◌++◌, filter, slice_set, Some, None}
use Rattle.std.specs.Option.{option_or}
use Rattle.std.specs.Set.{remove_key}
use Rattle.bc_data.specs.declared.run.Invocation.{Invocation}
use Rattle.bc_data.specs.declared.run.Stop.{Stop}
use Rattle.bc_mean.specs.declared.plain.Plain.{Plain}
use Rattle.bc_mean.specs.Changes.{changed_objects}
use Rattle.bc_mean.specs.Enabled.{is_enabled}
use Rattle.bc_mean.specs.Serial.{Failed, is_untouched, pending_after}
use Rattle.bc_book_events.specs.Book.{BookState, busy}

-- a stop is set where none is
abbrev pub stopped : Stop → BookState → BookState
stopped s b = record b { stop = option_or b.stop (Some s) }

-- the first pending one that passes the test moves to the worker
abbrev pub given : ℕ → (Invocation → Bool) → Invocation → BookState → BookState
given worker test v b = record b { pending = remove_key test b.pending; running = slice_set b.running worker (Some v) }

-- the worker has none any more
abbrev pub freed : ℕ → BookState → BookState
freed worker b = record b { running = slice_set b.running worker None }

-- The worker's invocation is back: at the end of the pending list where it is enabled, and dropped elsewhere.
abbrev pub put_back : ℕ → Invocation → BookState → BookState
put_back worker v b = record b {
  pending = if is_enabled b.program b.store v then b.pending ++ v ∷ [] else b.pending;
  running = slice_set b.running worker None;
}

-- the failure of the worker's invocation is recorded
abbrev pub recorded : ℕ → Failed → BookState → BookState
recorded worker f b = record b { running = slice_set b.running worker None; failures = b.failures ++ f ∷ [] }

-- the failures that touched none of the changed objects
abbrev pub failures_left : List ℕ → List Failed → List Failed
failures_left changed failures = filter (is_untouched changed) failures

-- The worker's invocation joins the history, and the store becomes T. The invocations of the other workers stay.
abbrev pub committed : ℕ → Plain → Invocation → BookState → BookState
committed worker T v b =
    let left = failures_left (changed_objects b.store T) b.failures in
    let others = slice_set b.running worker None in
    record b {
      store = T;
      history = b.history ++ v ∷ [];
      pending = pending_after b.program T left (busy others) b.pending;
      running = others;
      failures = left;
    }

-- When the pending list is exact.
use Rattle.std.specs.Prelude.{◌≡◌, ◌≢◌, ℕ, Some, not, ◌&&◌, true, false, AllPairs}
use Rattle.bc_data.specs.declared.run.Invocation.{Invocation}
use Rattle.bc_mean.specs.Enabled.{is_enabled}
use Rattle.bc_mean.specs.Serial.{has_failure, listed}
use Rattle.bc_book_events.specs.Book.{BookState, held_by, is_running}

-- Pending are, each once, exactly the enabled invocations that no worker has and that have no failure. No two workers have one
-- invocation, what a worker has has no failure, and nothing has two.
pub record IsExact (b : BookState) : Type 0 where
  pub once : AllPairs (λ v w. v ≢ w) b.pending
  pub pending :
      (v : Invocation)
      → listed b.pending v ≡ (is_enabled b.program b.store v && (not (is_running b.running v) && not (has_failure b.failures v)))
  pub alone : (worker other : ℕ) (v : Invocation) → held_by b.running worker ≡ Some v → held_by b.running other ≡ Some v → worker ≡ other
  pub unfailed : (v : Invocation) → is_running b.running v ≡ true → has_failure b.failures v ≡ false
  pub failed_once : AllPairs (λ f g. f.v ≢ g.v) b.failures

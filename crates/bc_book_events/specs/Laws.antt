-- The laws of the book, as facts that contracts name.
use Rattle.std.specs.Prelude.{◌≡◌, ℕ, ◌+◌, ◌<◌, All, Bool, false, not, ◌&&◌, ◌||◌, List, length, filter, map, slice_set, Some, None}
use Rattle.std.specs.List.{find}
use Rattle.bc_data.specs.Typed.{TypedProgram}
use Rattle.bc_data.specs.WellTyped.{IsWellTyped}
use Rattle.bc_data.specs.declared.run.Changes.{Changes}
use Rattle.bc_data.specs.declared.run.Invocation.{Invocation}
use Rattle.bc_data.specs.declared.run.Ran.TheVariants as ran
use Rattle.bc_data.specs.declared.run.Stop.{Stop}
use Rattle.bc_mean.specs.declared.plain.Plain.{Plain}
use Rattle.bc_mean.specs.Changes.{apply_changes, changed_objects}
use Rattle.bc_mean.specs.Enabled.{IsEnabled, all_enabled, is_enabled}
use Rattle.bc_mean.specs.Outcome.{body_outcome}
use Rattle.bc_mean.specs.Orders.{IsAscending}
use Rattle.bc_mean.specs.Serial.{Failed, listed}
use Rattle.bc_mean.specs.Store.{Fits}
use Rattle.bc_book_events.specs.Book.{BookState, busy, held_by}
use Rattle.bc_book_events.specs.Exact.{IsExact}
use Rattle.bc_book_events.specs.Reshaped.{ReshapesOnly, appended, is_wanted, kept, reshaped_by, names_any}
use Rattle.bc_book_events.specs.Steps.{committed, failures_left, freed, given, put_back, recorded, stopped}

-- Changes move the objects that they write or make, and no others.
abbrev pub ChangesMove : Type 0
ChangesMove = (S : Plain) (c : Changes) → ReshapesOnly (reshaped_by S c) S (apply_changes S c)

-- What the exit of a body writes has changed, over a store that fits: nothing else has, and nothing is written as it was.
abbrev pub WritesAreChanges : Type 0
WritesAreChanges =
    (P : TypedProgram) (S : Plain) (v : Invocation) (c : Changes)
    → Fits P S
    → (body_outcome P S v).ran ≡ ran.Commit c
    → changed_objects S (apply_changes S c) ≡ map (λ w. w.id) c.bodies

-- Of the pending ones only those that name an object that was reshaped can fall out.
abbrev pub KeptShort : Type 0
KeptShort =
    (b : BookState) (T : Plain) (reshaped : List ℕ)
    → IsExact b
    → ReshapesOnly reshaped b.store T
    → kept b.program T b.pending ≡ filter (λ v. not (names_any reshaped v) || is_enabled b.program T v) b.pending

-- Any ascending list of exactly the wanted invocations that are enabled is what is appended. An instance that is new is
-- bound by an object that was reshaped, so that it need not be looked for.
abbrev pub AppendedMet : Type 0
AppendedMet =
    (b : BookState) (T : Plain) (reshaped changed : List ℕ) (worker : ℕ) (v : Invocation) (found : List Invocation)
    → IsExact b
    → held_by b.running worker ≡ Some v
    → IsWellTyped b.program
    → Fits b.program b.store
    → ReshapesOnly reshaped b.store T
    → IsAscending found
    → ((w : Invocation) → listed found w ≡ (is_enabled b.program T w && is_wanted reshaped changed worker v b w))
    → appended b.program T (failures_left changed b.failures) (busy (slice_set b.running worker None)) b.pending ≡ found

-- Whatever happens to the invocation of a worker, the pending list stays exact.
pub record KeepsExact : Type 0 where
  pub given :
      (b : BookState) (worker : ℕ) (test : Invocation → Bool) (v : Invocation)
      → IsExact b
      → held_by b.running worker ≡ None
      → worker < length b.running
      → find test b.pending ≡ Some v
      → IsExact (given worker test v b)
  pub dropped :
      (b : BookState) (worker : ℕ) (v : Invocation)
      → IsExact b
      → held_by b.running worker ≡ Some v
      → is_enabled b.program b.store v ≡ false
      → IsExact (freed worker b)
  pub put_back :
      (b : BookState) (worker : ℕ) (v : Invocation) → IsExact b → held_by b.running worker ≡ Some v → IsExact (put_back worker v b)
  pub recorded :
      (b : BookState) (worker : ℕ) (f : Failed) → IsExact b → held_by b.running worker ≡ Some f.v → IsExact (recorded worker f b)
  pub committed :
      (b : BookState) (worker : ℕ) (v : Invocation) (T : Plain)
      → IsExact b
      → held_by b.running worker ≡ Some v
      → IsExact (committed worker T v b)
  pub stopped : (b : BookState) (s : Stop) → IsExact b → IsExact (stopped s b)

-- What is enabled is pending, or a worker has it, or it has a failure, and nothing is two of these. So it can be counted
-- where each failure is of an enabled invocation.
abbrev pub EnabledCounted : Type 0
EnabledCounted =
    (b : BookState)
    → IsExact b
    → All (λ f. IsEnabled b.program b.store f.v) b.failures
    → length (all_enabled b.program b.store)
    ≡ length b.pending + (length (filter (is_enabled b.program b.store) (busy b.running)) + length b.failures)

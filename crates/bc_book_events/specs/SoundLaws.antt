-- That events keep the book sound, as facts that contracts name.
use Rattle.std.specs.Prelude.{◌≡◌, ℕ, ◌<◌, ◌≤◌, Bool, false, not, ◌&&◌, ◌||◌, List, [], ◌∷◌, ◌++◌, filter, length, map, replicate, slice_set, All, Some, None}
use Rattle.bc_data.specs.Typed.{TypedProgram}
use Rattle.bc_data.specs.WellTyped.{IsWellTyped}
use Rattle.bc_data.specs.declared.run.Changes.{Changes}
use Rattle.bc_data.specs.declared.run.Fault.{Fault}
use Rattle.bc_data.specs.declared.run.Invocation.{Invocation}
use Rattle.bc_data.specs.declared.run.Ran.{Ran}
use Rattle.bc_data.specs.declared.run.Ran.TheVariants as ran
use Rattle.bc_data.specs.declared.run.Stop.TheVariants as stop
use Rattle.bc_mean.specs.declared.plain.Plain.{Plain}
use Rattle.bc_mean.specs.Changes.{apply_changes, changed_objects}
use Rattle.bc_mean.specs.Enabled.{IsEnabled, all_enabled, is_enabled}
use Rattle.bc_mean.specs.Orders.{IsAscending}
use Rattle.bc_mean.specs.Outcome.{body_outcome}
use Rattle.bc_mean.specs.Serial.{IsQuiet, after_commit, is_crowded, listed}
use Rattle.bc_mean.specs.Store.{Fits, start_store}
use Rattle.bc_mean.specs.Work.{Look}
use Rattle.bc_book_events.specs.Book.{BookState, held_by}
use Rattle.bc_book_events.specs.Events.{begin, commit, fail, first_moved, halt, lose, pick, take}
use Rattle.bc_book_events.specs.Reshaped.{ReshapesOnly, is_wanted, names_any}
use Rattle.bc_book_events.specs.Named.{IsNamed}
use Rattle.bc_book_events.specs.Sound.{IsSoundBook, StillFails}
use Rattle.bc_book_events.specs.Steps.{committed, failures_left}

-- all that is enabled is pending, and nothing runs
abbrev pub book_at_start : TypedProgram → List ℕ → ℕ → ℕ → BookState
book_at_start P input limit workers = record {
  program = P;
  input = input;
  limit = limit;
  store = start_store input;
  history = [];
  pending = all_enabled P (start_store input);
  running = replicate workers None;
  failures = [];
  stop = None;
}

-- the body of this enabled invocation ends so in the store of the book, having touched these objects
pub record EndsSo (b : BookState) (v : Invocation) (r : Ran) (touched : List ℕ) : Type 0 where
  pub enabled : IsEnabled b.program b.store v
  pub ends : body_outcome b.program b.store v ≡ record { ran = r; touched = touched }

-- a commit to T leaves failures that still stand
abbrev pub LeavesFailures : BookState → Plain → Type 0
LeavesFailures b T = All (StillFails b.program T) (failures_left (changed_objects b.store T) b.failures)

-- Each event keeps the book sound. Of a run it asks that it ended so in this very store, unless a body has moved that it
-- touched; of a commit besides that failures stand that touched nothing that changed.
pub record KeepsSoundBook : Type 0 where
  pub start :
      (P : TypedProgram) (input : List ℕ) (limit workers : ℕ)
      → IsWellTyped P
      → All (λ byte. byte < 256) input
      → length input ≤ 65536
      → IsSoundBook (book_at_start P input limit workers)
  pub take :
      (b : BookState) (worker : ℕ) (allows : Invocation → Bool)
      → IsSoundBook b
      → held_by b.running worker ≡ None
      → worker < length b.running
      → IsSoundBook (take worker allows b).book
  pub pick :
      (b : BookState) (worker : ℕ) (v : Invocation)
      → IsSoundBook b
      → held_by b.running worker ≡ None
      → worker < length b.running
      → IsSoundBook (pick worker v b).book
  pub begin :
      (b : BookState) (worker : ℕ) (v : Invocation)
      → IsSoundBook b
      → held_by b.running worker ≡ Some v
      → IsSoundBook (begin worker v b).book
  pub lose :
      (b : BookState) (worker : ℕ) (v : Invocation)
      → IsSoundBook b
      → held_by b.running worker ≡ Some v
      → IsSoundBook (lose worker v b).book
  pub halt : (b : BookState) (worker : ℕ) → IsSoundBook b → IsSoundBook (halt worker b)
  pub fail :
      (b : BookState) (look : Look) (f : Fault) (touched : List ℕ) (worker : ℕ) (v : Invocation)
      → IsSoundBook b
      → held_by b.running worker ≡ Some v
      → (first_moved b.store look touched ≡ None → EndsSo b v (ran.Faulted f) touched)
      → IsSoundBook (fail look f touched worker v b).book
  pub commit :
      (b : BookState) (look : Look) (c : Changes) (touched : List ℕ) (worker : ℕ) (v : Invocation)
      → IsSoundBook b
      → held_by b.running worker ≡ Some v
      → (first_moved b.store look touched ≡ None → EndsSo b v (ran.Commit c) touched)
      → (after_commit b.program b.store v ≡ Some (apply_changes b.store c) → LeavesFailures b (apply_changes b.store c))
      → IsSoundBook (commit look c touched worker v b).book

-- At the start at most one invocation of each task is enabled.
abbrev pub StartIsRoomy : Type 0
StartIsRoomy = (P : TypedProgram) (input : List ℕ) → IsWellTyped P → is_crowded P (start_store input) ≡ false

-- An invocation of an accepted program that is enabled names what is there, and what changes are applied to keeps that.
pub record EnabledNames : Type 0 where
  pub enabled : (P : TypedProgram) (S : Plain) (v : Invocation) → IsWellTyped P → IsEnabled P S v → IsNamed P S v
  pub kept : (P : TypedProgram) (S : Plain) (v : Invocation) (c : Changes) → IsNamed P S v → IsNamed P (apply_changes S c) v

-- A commit, as it is found from any list of objects that has all whose kind, flags or tags differ behind it: those that name one
-- of these and are not enabled any more fall out, what is wanted goes behind the others, and the failures that touched what was
-- written are dropped.
abbrev pub CommitMet : Type 0
CommitMet =
    (b : BookState) (worker : ℕ) (v : Invocation) (c : Changes) (reshaped : List ℕ) (found : List Invocation)
    → IsSoundBook b
    → held_by b.running worker ≡ Some v
    → Fits b.program b.store
    → (body_outcome b.program b.store v).ran ≡ ran.Commit c
    → ReshapesOnly reshaped b.store (apply_changes b.store c)
    → IsAscending found
    → ((w : Invocation) → listed found w ≡ (is_enabled b.program (apply_changes b.store c) w && is_wanted reshaped (map (λ u. u.id) c.bodies) worker v b w))
    → committed worker (apply_changes b.store c) v b
    ≡ record b {
      store = apply_changes b.store c;
      history = b.history ++ v ∷ [];
      pending = filter (λ w. not (names_any reshaped w) || is_enabled b.program (apply_changes b.store c) w) b.pending ++ found;
      running = slice_set b.running worker None;
      failures = failures_left (map (λ u. u.id) c.bodies) b.failures;
    }

-- Where a sound book has ended with nothing left, every enabled invocation faults in its store.
abbrev pub EndsQuiet : Type 0
EndsQuiet = (b : BookState) → IsSoundBook b → b.stop ≡ Some stop.End → IsQuiet b.program b.store

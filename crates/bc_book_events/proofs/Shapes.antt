-- The forms of the books that events leave.
use Rattle.std.proofs.Common.{◌≡◌, ℕ, Bool, ◌==◌, List, length, Option, Some, None, refl}
use Rattle.std.specs.Prelude.{slice_get}
use Rattle.std.specs.List.{find}
use Rattle.std.proofs.lemmas.Bool.{cond_both}
use Rattle.bc_data.specs.declared.run.Changes.{Changes}
use Rattle.bc_data.specs.declared.run.Fault.{Fault}
use Rattle.bc_data.specs.declared.run.FaultKind.{FaultKind}
use Rattle.bc_data.specs.declared.run.Invocation.{Invocation}
use Rattle.bc_data.specs.declared.run.Stop.{Stop}
use Rattle.bc_data.specs.declared.run.Stop.TheVariants as stop
use Rattle.bc_mean.specs.Changes.{apply_changes, fault_of_room}
use Rattle.bc_mean.specs.Outcome.{place_of}
use Rattle.bc_mean.specs.Serial.{Failed, is_crowded}
use Rattle.bc_mean.specs.Work.{Look}
use Rattle.bc_book_events.specs.declared.answers.Commit.{Commit}
use Rattle.bc_book_events.specs.declared.answers.Taken.{Taken}
use Rattle.bc_book_events.specs.declared.answers.Taken.TheVariants as taken
use Rattle.bc_book_events.specs.Book.{BookState, is_at_rest}
use Rattle.bc_book_events.specs.Events.{Step, answers, commit, commit_to, commit_unless, commit_unmoved, commit_with_room, fail, fail_unmoved, first_moved, take, take_found, take_unless}
use Rattle.bc_book_events.specs.Steps.{committed, given, put_back, recorded, stopped}

-- A take leaves the book as it was, ended, or with one that was found for the worker.
module _ (worker : ℕ) (allows : Invocation → Bool) (b : BookState) (K : Step Taken → Type 0)
    (idle : K (answers taken.Idle b)) (over : (s : Stop) → K (answers (taken.Over s) b)) (end : K (answers (taken.Over stop.End) (stopped stop.End b)))
    (got : (v : Invocation) → find allows b.pending ≡ Some v → K (answers (taken.Got v) (given worker allows v b))) where
  found_shape : (o : Option Invocation) → find allows b.pending ≡ o → K (take_found worker allows o b)
  found_shape None e = idle
  found_shape (Some v) e = got v e

  unless_shape : (o : Option Stop) → K (take_unless o worker allows b)
  unless_shape (Some s) = over s
  unless_shape None = cond_both (is_at_rest b) _ _ K (λ _. end) (λ _. found_shape (find allows b.pending) refl)

  pub take_shape : K (take worker allows b)
  unfolding take
  take_shape = unless_shape b.stop

-- Where the worker's run ends, its invocation is back, or recorded, or committed.
module _ (worker : ℕ) (v : Invocation) (b : BookState) (K : BookState → Type 0)
    (back : K (put_back worker v b)) (over : (s : Stop) → K (stopped s (put_back worker v b))) (record_ : (f : Failed) → K (recorded worker f b)) where
  fail_unmoved_shape : (m : Option ℕ) (f : Fault) (touched : List ℕ) → K (fail_unmoved m f touched worker v b).book
  fail_unmoved_shape (Some id) f touched = back
  fail_unmoved_shape None f touched = record_ (record { v = v; fault = f; touched = touched })

  pub fail_shape : (look : Look) (f : Fault) (touched : List ℕ) → K (fail look f touched worker v b).book
  unfolding fail
  fail_shape look f touched = fail_unmoved_shape (first_moved b.store look touched) f touched

  module _ (c : Changes) (joined : K (committed worker (apply_changes b.store c) v b)) where
    commit_to_shape : K (commit_to (apply_changes b.store c) worker v b).book
    commit_to_shape =
        cond_both (length b.history == b.limit) _ _ (λ (s : Step Commit). K s.book) (λ _. over (stop.Spent v))
        (λ _. cond_both (is_crowded b.program (apply_changes b.store c)) _ _ (λ (s : Step Commit). K s.book) (λ _. over (stop.Crowded v)) (λ _. joined))

    with_room_shape : (k : Option FaultKind) (touched : List ℕ) → K (commit_with_room k c touched worker v b).book
    with_room_shape None touched = commit_to_shape
    with_room_shape (Some k) touched = record_ (record { v = v; fault = record { kind = k; at = place_of (slice_get b.program.tasks v.task) }; touched = touched })

    commit_unmoved_shape : (m : Option ℕ) (touched : List ℕ) → K (commit_unmoved m c touched worker v b).book
    commit_unmoved_shape (Some id) touched = back
    commit_unmoved_shape None touched = with_room_shape (fault_of_room b.store c) touched

    commit_unless_shape : (o : Option Stop) (look : Look) (touched : List ℕ) → K (commit_unless o look c touched worker v b).book
    commit_unless_shape (Some s) look touched = over s
    commit_unless_shape None look touched = commit_unmoved_shape (first_moved b.store look touched) touched

    pub commit_shape : (look : Look) (touched : List ℕ) → K (commit look c touched worker v b).book
    unfolding commit
    commit_shape look touched = commit_unless_shape b.stop look touched

-- Each event keeps what a run is of.
use Rattle.std.proofs.Common.{◌≡◌, ℕ, Bool, List, [], ◌∷◌, length, length-set, Option, Some, None, refl, subst, ◌∙◌}
use Rattle.std.specs.Prelude.{slice_set}
use Rattle.std.proofs.lemmas.Bool.{cond_both}
use Rattle.bc_data.specs.declared.run.Changes.{Changes}
use Rattle.bc_data.specs.declared.run.Fault.{Fault}
use Rattle.bc_data.specs.declared.run.Invocation.{Invocation}
use Rattle.bc_data.specs.declared.run.Stop.{Stop}
use Rattle.bc_data.specs.declared.run.Stop.TheVariants as stop
use Rattle.bc_mean.specs.declared.plain.Plain.{Plain}
use Rattle.bc_mean.specs.Changes.{apply_changes}
use Rattle.bc_mean.specs.Enabled.{is_enabled}
use Rattle.bc_mean.specs.Serial.{Failed, listed, same_invocation}
use Rattle.bc_mean.specs.Work.{Look}
use Rattle.bc_book_events.specs.declared.answers.Begun.{Begun}
use Rattle.bc_book_events.specs.declared.answers.Taken.{Taken}
use Rattle.bc_book_events.specs.After.{Did, Leads, after, book_with, core_at_start}
use Rattle.bc_book_events.specs.Book.{BookState, held_by}
use Rattle.bc_book_events.specs.Core.{Core, Event, Part, look_in}
use Rattle.bc_book_events.specs.Core.{Take, Claim, Begin, Fetch, Commit, Fail, Lose, Halt, Release}
use Rattle.bc_book_events.specs.Events.{Step, begin, commit, fail, given_up, halt, lose, pick, take}
use Rattle.bc_book_events.specs.SameRun.{EventsKeepRun, MachineKeepsRun, SameRunComposes}
use Rattle.bc_book_events.specs.Steps.{committed, freed, given, put_back, recorded, stopped}
use Rattle.bc_book_events.specs.Turns.{IsSameRun}
use Rattle.bc_book_events.proofs.Shapes.{commit_shape, fail_shape, take_shape}

pub same_itself : (b : BookState) → IsSameRun b b
same_itself b = record { program = refl; input = refl; limit = refl; workers = refl }

pub same_then : (b d e : BookState) → IsSameRun b d → IsSameRun d e → IsSameRun b e
same_then b d e h k = record {
  program = k.program ∙ h.program;
  input = k.input ∙ h.input;
  limit = k.limit ∙ h.limit;
  workers = k.workers ∙ h.workers;
}

module _ (worker : ℕ) (b : BookState) where
  -- the number of workers stays where one slot is filled or emptied
  same_size : (slot : Option Invocation) → length (slice_set b.running worker slot) ≡ length b.running
  same_size slot = length-set b.running worker slot

  same_given : (v : Invocation) (test : Invocation → Bool) → IsSameRun b (given worker test v b)
  same_given v test = record { program = refl; input = refl; limit = refl; workers = same_size (Some v) }

  same_freed : IsSameRun b (freed worker b)
  same_freed = record { program = refl; input = refl; limit = refl; workers = same_size None }

  same_back : (v : Invocation) → IsSameRun b (put_back worker v b)
  same_back v = record { program = refl; input = refl; limit = refl; workers = same_size None }

  same_over : (v : Invocation) (s : Stop) → IsSameRun b (stopped s (put_back worker v b))
  same_over v s = record { program = refl; input = refl; limit = refl; workers = same_size None }

  same_recorded : (f : Failed) → IsSameRun b (recorded worker f b)
  same_recorded f = record { program = refl; input = refl; limit = refl; workers = same_size None }

  same_committed : (T : Plain) (v : Invocation) → IsSameRun b (committed worker T v b)
  same_committed T v = record { program = refl; input = refl; limit = refl; workers = same_size None }

  same_stopped : (s : Stop) → IsSameRun b (stopped s b)
  same_stopped s = record { program = refl; input = refl; limit = refl; workers = refl }

  pub same_take : (allows : Invocation → Bool) → IsSameRun b (take worker allows b).book
  same_take allows =
      take_shape worker allows b (λ (s : Step Taken). IsSameRun b s.book)
      (same_itself b) (λ s. same_itself b) (same_stopped stop.End) (λ v e. same_given v allows)

  same_pick : (v : Invocation) → IsSameRun b (pick worker v b).book
  unfolding pick
  same_pick v =
      cond_both (listed b.pending v) _ _ (λ (s : Step Bool). IsSameRun b s.book)
      (λ _. same_given v (same_invocation v)) (λ _. same_itself b)

  same_begin : (v : Invocation) → IsSameRun b (begin worker v b).book
  unfolding begin
  same_begin v =
      cond_both (is_enabled b.program b.store v) _ _ (λ (s : Step Begun). IsSameRun b s.book)
      (λ _. same_itself b) (λ _. same_freed)

  same_lose : (v : Invocation) → IsSameRun b (lose worker v b).book
  unfolding lose
  same_lose v = same_back v

  same_halted : (o : Option Invocation) → IsSameRun b (stopped stop.Memory (given_up worker o b))
  same_halted None = same_stopped stop.Memory
  same_halted (Some v) = same_over v stop.Memory

  same_halt : IsSameRun b (halt worker b)
  unfolding halt
  same_halt = same_halted (held_by b.running worker)

  pub same_fail :
      (look : Look) (f : Fault) (touched : List ℕ) (v : Invocation)
      → IsSameRun b (fail look f touched worker v b).book
  same_fail look f touched v =
      fail_shape worker v b (IsSameRun b) (same_back v) (same_over v) same_recorded look f touched

  pub same_commit :
      (look : Look) (c : Changes) (touched : List ℕ) (v : Invocation)
      → IsSameRun b (commit look c touched worker v b).book
  same_commit look c touched v =
      commit_shape worker v b (IsSameRun b) (same_back v) (same_over v) same_recorded
      c (same_committed (apply_changes b.store c) v) look touched

  same_with : (p : Part) (e : Event) (o : Option Invocation) → IsSameRun b (book_with worker p e o b)
  same_with p (Take allows) o = same_take allows
  same_with p (Claim id) o = same_itself b
  same_with p Begin None = same_itself b
  same_with p Begin (Some v) = same_begin v
  same_with p (Fetch id) o = same_itself b
  same_with p (Commit c touched) None = same_itself b
  same_with p (Commit c touched) (Some v) = same_commit (look_in p.fetched) c touched v
  same_with p (Fail f touched) None = same_itself b
  same_with p (Fail f touched) (Some v) = same_fail (look_in p.fetched) f touched v
  same_with p Lose None = same_itself b
  same_with p Lose (Some v) = same_lose v
  same_with p Halt o = same_halt
  same_with p (Release id) o = same_itself b

same_event : (core : Core) (worker : ℕ) (e : Event) → IsSameRun core.book (after core worker e).book
unfolding after
same_event core worker e = same_with worker core.book (core.parts worker) e (core.parts worker).invocation

same_many : (from : Core) (events : List Did) (to : Core) → Leads from events to → IsSameRun from.book to.book
same_many from [] to h = subst (λ (core : Core). IsSameRun from.book core.book) h (same_itself from.book)
same_many from (d ∷ ds) to h =
    let next = after from d.worker d.event in
    same_then from.book next.book to.book (same_event from d.worker d.event) (same_many next ds to h.1)

pub events_keep_run : EventsKeepRun
events_keep_run = record {
  take = λ worker allows b. same_take worker b allows;
  pick = λ worker v b. same_pick worker b v;
  begin = λ worker v b. same_begin worker b v;
  lose = λ worker v b. same_lose worker b v;
  halt = same_halt;
  fail = λ look f touched worker v b. same_fail worker b look f touched v;
  commit = λ look c touched worker v b. same_commit worker b look c touched v;
}

pub machine_keeps_run : MachineKeepsRun
machine_keeps_run = record {
  event = same_event;
  many = same_many;
  reached = λ P input limit workers core run. same_many (core_at_start P input limit workers) run.0 core run.1;
}

pub same_run_composes : SameRunComposes
same_run_composes = record { itself = same_itself; onward = same_then }

-- What the events of the book come to, case by case.
use Rattle.std.proofs.Common.{◌≡◌, ℕ, List, Bool, true, false, cond, Option, Some, None, filter_map, refl, sym, ap, ap₂, ◌∙◌}
use Rattle.std.specs.List.{find}
use Rattle.std.specs.Prelude.{slice_get}
use Rattle.std.specs.Option.{option_or}
use Rattle.bc_data.specs.declared.run.Changes.{Changes}
use Rattle.bc_data.specs.declared.run.Fault.{Fault}
use Rattle.bc_data.specs.declared.run.Invocation.{Invocation}
use Rattle.bc_data.specs.declared.run.Stop.{Stop}
use Rattle.bc_data.specs.declared.run.Stop.TheVariants as stop
use Rattle.bc_mean.specs.Changes.{fault_of_room}
use Rattle.bc_mean.specs.Enabled.{is_enabled}
use Rattle.bc_mean.specs.Serial.{listed, same_invocation}
use Rattle.bc_code.specs.Given.{given_look, ids_of}
use Rattle.bc_step.specs.Area.{AreaParts, given_of}
use Rattle.bc_law_core.specs.Areas.{changes_of, moved_in}
use Rattle.bc_book.specs.Ends.{commits, fails}
use Rattle.bc_book_events.specs.declared.answers.Begun.TheVariants as begins
use Rattle.bc_book_events.specs.declared.answers.Failing.TheVariants as failing
use Rattle.bc_book_events.specs.declared.answers.Taken.TheVariants as taken
use Rattle.bc_book_events.specs.Book.{BookState, held_by, is_at_rest}
use Rattle.bc_book_events.specs.Events.{answers, begin, commit, commit_unless, commit_unmoved, commit_with_room, fail, fail_unmoved, given_up, halt, lose, pick, take, take_found, take_unless}
use Rattle.bc_book_events.specs.Steps.{freed, given, put_back, recorded, stopped}

module _ (b : BookState) (worker : ℕ) (allows : Invocation → Bool) where
  pub take_over : (s : Stop) → b.stop ≡ Some s → take worker allows b ≡ answers (taken.Over s) b
  unfolding take
  take_over s e = ap (λ (o : Option Stop). take_unless o worker allows b) e

  pub take_end : b.stop ≡ None → is_at_rest b ≡ true → take worker allows b ≡ answers (taken.Over stop.End) (record b { stop = Some stop.End })
  unfolding take
  take_end e rest =
      ap (λ (o : Option Stop). take_unless o worker allows b) e
      ∙ ap (λ (t : Bool). cond t (answers (taken.Over stop.End) (stopped stop.End b)) (take_found worker allows (find allows b.pending) b)) rest
      ∙ ap (λ (o : Option Stop). answers (taken.Over stop.End) (record b { stop = option_or o (Some stop.End) })) e

  pub take_as : (o : Option Invocation) → b.stop ≡ None → is_at_rest b ≡ false → find allows b.pending ≡ o → take worker allows b ≡ take_found worker allows o b
  unfolding take
  take_as o e busy f =
      ap (λ (s : Option Stop). take_unless s worker allows b) e
      ∙ ap (λ (t : Bool). cond t (answers (taken.Over stop.End) (stopped stop.End b)) (take_found worker allows (find allows b.pending) b)) busy
      ∙ ap (λ (w : Option Invocation). take_found worker allows w b) f

pub pick_as : (b : BookState) (worker : ℕ) (v : Invocation) (t : Bool) → listed b.pending v ≡ t → pick worker v b ≡ cond t (answers true (given worker (same_invocation v) v b)) (answers false b)
unfolding pick
pick_as b worker v t e = ap (λ (r : Bool). cond r (answers true (given worker (same_invocation v) v b)) (answers false b)) e

pub begin_as : (b : BookState) (worker : ℕ) (v : Invocation) (t : Bool) → is_enabled b.program b.store v ≡ t → begin worker v b ≡ cond t (answers (begins.Ready (filter_map (slice_get b.store.bodies) v.objects)) b) (answers begins.Stale (freed worker b))
unfolding begin
begin_as b worker v t e = ap (λ (r : Bool). cond r (answers (begins.Ready (filter_map (slice_get b.store.bodies) v.objects)) b) (answers begins.Stale (freed worker b))) e

pub lose_as : (b : BookState) (worker : ℕ) (v : Invocation) → lose worker v b ≡ answers (is_enabled b.program b.store v) (put_back worker v b)
unfolding lose
lose_as b worker v = refl

pub halt_as : (b : BookState) (worker : ℕ) → halt worker b ≡ stopped stop.Memory (given_up worker (held_by b.running worker) b)
unfolding halt
halt_as b worker = refl

-- a fault, by the first body that has moved
pub fails_as : (b : BookState) (f : Fault) (worker : ℕ) (a : AreaParts) (o : Option ℕ) → moved_in b.store a ≡ o → fails f worker a b ≡ fail_unmoved o f (ids_of (given_of a.held)) worker a.invocation b
unfolding fail
fails_as b f worker a o e = ap (λ (m : Option ℕ). fail_unmoved m f (ids_of (given_of a.held)) worker a.invocation b) e

pub fails_unmoved :
    (b : BookState) (f : Fault) (worker : ℕ) (a : AreaParts) (v : Invocation) (touched : List ℕ)
    → moved_in b.store a ≡ None
    → a.invocation ≡ v
    → touched ≡ ids_of (given_of a.held)
    → fails f worker a b ≡ answers failing.Recorded (recorded worker (record { v = v; fault = f; touched = touched }) b)
fails_unmoved b f worker a v touched e same ids =
    fails_as b f worker a None e
    ∙ ap₂ (λ (w : Invocation) (l : List ℕ). answers failing.Recorded (recorded worker (record { v = w; fault = f; touched = l }) b)) same (sym ids)

-- an exit, by the first body that has moved, where the run isn't over
pub commits_as : (b : BookState) (worker : ℕ) (a : AreaParts) (s : Option Stop) → b.stop ≡ s → commits worker a b ≡ commit_unless s (given_look (given_of a.held)) (changes_of b.store a) (ids_of (given_of a.held)) worker a.invocation b
unfolding commit
commits_as b worker a s e = ap (λ (o : Option Stop). commit_unless o (given_look (given_of a.held)) (changes_of b.store a) (ids_of (given_of a.held)) worker a.invocation b) e

pub commits_going : (b : BookState) (worker : ℕ) (a : AreaParts) (o : Option ℕ) → b.stop ≡ None → moved_in b.store a ≡ o → commits worker a b ≡ commit_unmoved o (changes_of b.store a) (ids_of (given_of a.held)) worker a.invocation b
commits_going b worker a o going e =
    commits_as b worker a None going
    ∙ ap (λ (m : Option ℕ). commit_unmoved m (changes_of b.store a) (ids_of (given_of a.held)) worker a.invocation b) e

pub commits_unmoved :
    (b : BookState) (worker : ℕ) (a : AreaParts) (v : Invocation) (c : Changes) (touched : List ℕ)
    → b.stop ≡ None
    → moved_in b.store a ≡ None
    → a.invocation ≡ v
    → c ≡ changes_of b.store a
    → touched ≡ ids_of (given_of a.held)
    → commits worker a b ≡ commit_with_room (fault_of_room b.store c) c touched worker v b
commits_unmoved b worker a v c touched going e same changes ids =
    commits_going b worker a None going e
    ∙ ap₂ (λ (w : Invocation) (l : List ℕ). commit_with_room (fault_of_room b.store (changes_of b.store a)) (changes_of b.store a) l worker w b) same (sym ids)
    ∙ ap (λ (d : Changes). commit_with_room (fault_of_room b.store d) d touched worker v b) (sym changes)

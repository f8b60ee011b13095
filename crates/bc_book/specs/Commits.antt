-- A commit, from what was found before anything is changed.
use Rattle.std.specs.Prelude.{◌≡◌, ℕ, Bool, false, List, map, slice_set, Option, Some, None, All}
use Rattle.bc_data.specs.declared.run.Changes.{Changes}
use Rattle.bc_data.specs.declared.run.Invocation.{Invocation}
use Rattle.bc_data.specs.declared.run.Ran.TheVariants as ran
use Rattle.bc_mean.specs.declared.plain.Plain.{Plain}
use Rattle.bc_mean.specs.Changes.{apply_changes, fault_of_room}
use Rattle.bc_mean.specs.Enabled.{IsEnabled}
use Rattle.bc_mean.specs.Orders.{IsAscending}
use Rattle.bc_mean.specs.Outcome.{body_outcome}
use Rattle.bc_mean.specs.Serial.{Failed, listed}
use Rattle.bc_mean.specs.Store.{Fits}
use Rattle.bc_params_sets.specs.Kept.{Kept}
use Rattle.bc_pending.specs.Lists.{HasObjects, is_held}
use Rattle.bc_book_events.specs.Book.{BookState, held_by}
use Rattle.bc_book_events.specs.Reshaped.{ReshapesOnly}
use Rattle.bc_book_events.specs.Sound.{IsSoundBook}
use Rattle.bc_book_lists.specs.Search.{AreBooks, AreOf, IsFound}

-- the worker's invocation v exits with these changes in the store of the sound book, and there is room for them
pub record MayCommit (b : BookState) (worker : ℕ) (v : Invocation) (c : Changes) : Type 0 where
  pub sound : IsSoundBook b
  pub held : held_by b.running worker ≡ Some v
  pub enabled : IsEnabled b.program b.store v
  pub exits : (body_outcome b.program b.store v).ran ≡ ran.Commit c
  pub room : fault_of_room b.store c ≡ None

-- the store, lists, failures and sets are those of the sound book, whose worker has v
pub record ArePartsOf (b : BookState) (worker : ℕ) (v : Invocation) (S : Plain) (vs : List Invocation) (held : List (Option Invocation)) (fs : List Failed) (kept : Kept) : Type 0 where
  pub sound : IsSoundBook b
  pub has : held_by b.running worker ≡ Some v
  pub fits : Fits b.program b.store
  pub store : b.store ≡ S
  pub lists : AreBooks b vs held fs
  pub sets : AreOf b.program b.store kept

-- What is ready for the commit: the objects that move, those that change, what is appended, and the sets of the store behind it.
pub record IsReady (b : BookState) (c : Changes) (worker : ℕ) (v : Invocation) (reshaped changed : List ℕ) (found : List Invocation) (falls : Bool) (kept : Kept) : Type 0 where
  pub reshapes : ReshapesOnly reshaped b.store (apply_changes b.store c)
  pub writes : changed ≡ map (λ w. w.id) c.bodies
  pub is_found : IsFound b (apply_changes b.store c) worker v reshaped changed found falls
  pub sets : AreOf b.program (apply_changes b.store c) kept

-- these may be appended where the worker's invocation is dropped
pub record MayAppend (vs : List Invocation) (held : List (Option Invocation)) (worker : ℕ) (more : List Invocation) : Type 0 where
  pub ascending : IsAscending more
  pub not_listed : All (λ w. listed vs w ≡ false) more
  pub not_held : All (λ w. is_held (slice_set held worker None) w ≡ false) more
  pub objects : All HasObjects more

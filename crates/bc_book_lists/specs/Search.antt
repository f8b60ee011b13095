-- What a search for newly pending invocations finds.
use Rattle.std.specs.Prelude.{◌≡◌, ℕ, Bool, false, not, if◌then◌else◌, ◌&&◌, ◌||◌, List, [], ◌∷◌, filter, length, slice_get, Option, Some}
use Rattle.bc_data.specs.Typed.{TypedProgram}
use Rattle.bc_data.specs.WellTyped.{IsWellTyped}
use Rattle.bc_data.specs.declared.run.Invocation.{Invocation}
use Rattle.bc_mean.specs.declared.plain.Plain.{Plain}
use Rattle.bc_mean.specs.Enabled.{all_enabled, is_enabled, is_some_and}
use Rattle.bc_mean.specs.Orders.{IsAscending}
use Rattle.bc_mean.specs.Serial.{Failed, is_crowded, listed, same_invocation}
use Rattle.bc_mean.specs.Store.{Fits}
use Rattle.bc_mean.specs.Work.{look_of}
use Rattle.bc_params_sets.specs.Kept.{Kept, AreSets, is_enabled_by}
use Rattle.bc_book_events.specs.Book.{BookState, held_by, is_running}
use Rattle.bc_book_events.specs.Reshaped.{ReshapesOnly, is_wanted, names_any}
use Rattle.bc_book_events.specs.Sound.{IsSoundBook}

-- the sets are those of a store of an accepted program
pub record AreOf (P : TypedProgram) (S : Plain) (k : Kept) : Type 0 where
  pub typed : IsWellTyped P
  pub sets : AreSets P (look_of S) S.tags k

-- it is not among these, and no worker has it
abbrev pub is_new : List Invocation → List (Option Invocation) → Invocation → Bool
is_new before running w = not (listed before w) && not (is_running running w)

-- those that pass the test were added
abbrev pub Adds : (Invocation → Bool) → List Invocation → List Invocation → Type 0
Adds test old new = (w : Invocation) → listed new w ≡ (listed old w || test w)

-- ascending, exactly those that pass the test
pub record IsListOf (test : Invocation → Bool) (found : List Invocation) : Type 0 where
  pub ascending : IsAscending found
  pub members : (w : Invocation) → listed found w ≡ test w

-- each of a sorted list once
abbrev pub distinct : List Invocation → List Invocation
distinct [] = []
distinct (v ∷ vs) = if is_some_and (slice_get vs 0) (same_invocation v) then distinct vs else v ∷ distinct vs

-- A search for what the commit of v appends: v is the worker's in the sound book b, and T is the store behind the commit, in which
-- these objects move.
pub record IsSearch (b : BookState) (T : Plain) (worker : ℕ) (v : Invocation) (reshaped : List ℕ) : Type 0 where
  pub sound : IsSoundBook b
  pub held : held_by b.running worker ≡ Some v
  pub fits : Fits b.program b.store
  pub reshapes : ReshapesOnly reshaped b.store T

-- the lists and failures are the book's
pub record AreBooks (b : BookState) (listed : List Invocation) (held : List (Option Invocation)) (fs : List Failed) : Type 0 where
  pub pending : b.pending ≡ listed
  pub running : b.running ≡ held
  pub failures : b.failures ≡ fs

-- the enabled ones that name an object that is reshaped
abbrev pub names_enabled : TypedProgram → Plain → List ℕ → Invocation → Bool
names_enabled P S reshaped w = names_any reshaped w && is_enabled P S w

-- what was there before: the enabled ones that name an object that is reshaped, and how many are enabled
pub record IsBefore (b : BookState) (reshaped : List ℕ) (found : List Invocation) (enabled : ℕ) : Type 0 where
  pub named : IsListOf (names_enabled b.program b.store reshaped) found
  pub count : enabled ≡ length (all_enabled b.program b.store)

-- a pending one falls out where it names an object that was reshaped and is not enabled any more
abbrev pub kept_behind : BookState → Plain → List ℕ → List Invocation
kept_behind b T reshaped = filter (λ w. not (names_any reshaped w) || is_enabled b.program T w) b.pending

-- What the search found: what is appended, in order, and, where none falls out, that the pending ones stay.
pub record IsFound (b : BookState) (T : Plain) (worker : ℕ) (v : Invocation) (reshaped changed : List ℕ) (found : List Invocation) (falls : Bool) : Type 0 where
  pub roomy : is_crowded b.program T ≡ false
  pub appended : IsListOf (λ w. is_enabled b.program T w && is_wanted reshaped changed worker v b w) found
  pub stay : falls ≡ false → kept_behind b T reshaped ≡ b.pending

-- one that names none of these objects, or that the sets tell to be enabled
abbrev pub stays_behind : Kept → List ℕ → Invocation → Bool
stays_behind kept reshaped w = not (names_any reshaped w) || is_enabled_by kept w

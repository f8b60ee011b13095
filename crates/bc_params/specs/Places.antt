-- Places whose sets are updated, and the room in them.
use Rattle.std.specs.Prelude.{◌≡◌, ℕ, ◌+◌, ◌*◌, ◌<◌, ◌≤◌, Bool, if◌then◌else◌, ◌&&◌, ◌==◌, List, length, count_by, sum_by, slice_index_or, All, Option, Some, None}
use Rattle.bc_data.specs.Typed.{TypedProgram, TypedTask}
use Rattle.bc_data.specs.declared.run.Body.{Body}
use Rattle.bc_data.specs.declared.run.Changes.{Changes}
use Rattle.bc_flags.specs.declared.guard.Form.{Form}
use Rattle.bc_flags.specs.Met.{is_met}
use Rattle.bc_mean.specs.Enabled.{is_some_and}
use Rattle.bc_params_sets.specs.declared.place.Place.{Place}
use Rattle.bc_params_sets.specs.declared.place.TaskSets.{TaskSets}
use Rattle.bc_params_sets.specs.Members.{IsRising}
use Rattle.bc_params_sets.specs.Kept.{Kept, AreSets, is_in}
use Rattle.bc_params_search.specs.Tuples.{AreFew, IsBound}
use Rattle.bc_params.specs.declared.places.Update.{Update}
use Rattle.bc_params.specs.Look.{class_of_either}

-- for how many more updates, and for how many more bindings, there is memory
pub record Spare : Type 0 where
  pub updates : ℕ
  pub bindings : ℕ

pub record ParamParts : Type 0 where
  pub kept : Kept
  pub spare : Spare

abbrev pub flags_of : Option Body → Option ℕ
flags_of None = None
flags_of (Some b) = Some b.flags

abbrev pub update_of : ℕ → Option Body → Option Body → Update
update_of id before after = record { id = id; class = class_of_either before after; flags = flags_of after }

-- the place takes objects of this class
abbrev pub is_of : Option ℕ → Place → Bool
is_of class q = is_some_and class (λ c. q.class == c)

-- the object is there now, and its flags meet the guard
abbrev pub is_met_now : Option ℕ → Form → Bool
is_met_now flags g = is_some_and flags (is_met g)

-- the place before and after an update: at a place of its class the object is in the set where it meets the guard now
pub record IsUpdated (u : Update) (q r : Place) : Type 0 where
  pub class : r.class ≡ q.class
  pub guard : r.guard ≡ q.guard
  pub binds : r.binds ≡ q.binds
  pub objects : (x : ℕ) → is_in r x ≡ (if is_of u.class q && (x == u.id) then is_met_now u.flags q.guard else is_in q x)
  pub rising : IsRising q.objects.members → IsRising r.objects.members
  pub spare : q.objects.spare ≤ r.objects.spare + 1

-- the place with more room
pub record IsRoomier (q r : Place) : Type 0 where
  pub class : r.class ≡ q.class
  pub guard : r.guard ≡ q.guard
  pub binds : r.binds ≡ q.binds
  pub members : r.objects.members ≡ q.objects.members
  pub spare : q.objects.spare ≤ r.objects.spare

-- as many elements, and each is related to the one in its place
pub record Each {A : Type 0} (R : A → A → Type 0) (xs ys : List A) : Type 0 where
  pub size : length ys ≡ length xs
  pub at : (k : ℕ) (d : A) → k < length xs → R (slice_index_or xs k d) (slice_index_or ys k d)

-- the first elements are related, and the others are as they were
pub record Front {A : Type 0} (R : A → A → Type 0) (n : ℕ) (xs ys : List A) : Type 0 where
  pub size : length ys ≡ length xs
  pub at : (k : ℕ) (d : A) → k < n → R (slice_index_or xs k d) (slice_index_or ys k d)
  pub rest : (k : ℕ) (d : A) → n ≤ k → slice_index_or ys k d ≡ slice_index_or xs k d

-- the same at each place of a task
pub record AtEachPlace (R : Place → Place → Type 0) (t s : TaskSets) : Type 0 where
  pub places : Each R t.places s.places
  pub variables : s.variables ≡ t.variables

-- how many places there are for a class
abbrev pub places_of : Option ℕ → List TaskSets → ℕ
places_of class ts = sum_by (λ t. count_by (is_of class) t.places) ts

-- how many parameters there are of a class
abbrev pub params_of : Option ℕ → List TypedTask → ℕ
params_of class ts = sum_by (λ t. count_by (λ p. is_some_and class (λ c. p.class == c)) t.params) ts

abbrev pub PlacesHaveRoom : ℕ → List Place → Type 0
PlacesHaveRoom n qs = All (λ q. n ≤ q.objects.spare) qs

abbrev pub HaveRoom : ℕ → List TaskSets → Type 0
HaveRoom n ts = All (λ t. PlacesHaveRoom n t.places) ts

abbrev pub AllRise : List TaskSets → Type 0
AllRise ts = All (λ t. All (λ q. IsRising q.objects.members) t.places) ts

-- how many bodies change or are new, and how many tags they have together
abbrev pub bodies_in : Changes → ℕ
bodies_in c = length c.bodies + length c.made

abbrev pub tags_of_changes : Changes → ℕ
tags_of_changes c = sum_by (λ w. length w.body.tags) c.bodies + sum_by (λ b. length b.tags) c.made

-- Memory for the updates for these changes, there and back. An object of a store has 16 tags at most.
pub record HasSpare (s : Spare) (c : Changes) : Type 0 where
  pub updates : 2 * bodies_in c ≤ s.updates
  pub bindings : 2 * tags_of_changes c + 16 * length c.bodies ≤ s.bindings

pub record KeepsSpare (old new : Spare) : Type 0 where
  pub updates : old.updates ≤ new.updates
  pub bindings : old.bindings ≤ new.bindings

-- what the sets are of stays so
abbrev pub KeepsSets : Kept → Kept → Type 0
KeepsSets old new = (P : TypedProgram) (look : ℕ → Option Body) (types : List ℕ) → AreSets P look types old → AreSets P look types new

-- what a search asks of the tasks: they are few and small, and each variable is bound
pub record IsSearchable (ts : List TaskSets) : Type 0 where
  pub few : AreFew ts
  pub bound : All IsBound ts

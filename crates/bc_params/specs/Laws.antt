-- Laws of the sets of a store.
use Rattle.std.specs.Prelude.{◌≡◌, ℕ, ◌<◌, List, ◌++◌, length, All, Option, Some, None}
use Rattle.bc_data.specs.Typed.{TypedProgram}
use Rattle.bc_data.specs.declared.run.TagRef.{TagRef}
use Rattle.bc_data.specs.declared.run.TagRef.TheVariants as tag
use Rattle.bc_data.specs.declared.run.Body.{Body}
use Rattle.bc_params_sets.specs.declared.tag_index.Binding.{Binding}
use Rattle.bc_params_sets.specs.declared.place.Place.{Place}
use Rattle.bc_params_sets.specs.Bindings.{is_bound}
use Rattle.bc_params_sets.specs.Kept.{Kept, AreSets}
use Rattle.bc_params.specs.Look.{put_look}
use Rattle.bc_params.specs.Places.{Each, AtEachPlace, AllRise, places_of, params_of}

-- the sets are of any look-up that finds the same bodies
abbrev pub SameLook : Type 0
SameLook = (P : TypedProgram) (look other : ℕ → Option Body) (types : List ℕ) (k : Kept) → ((x : ℕ) → other x ≡ look x) → AreSets P look types k → AreSets P other types k

-- an instance that has a type, or none
abbrev pub IsTyped : List ℕ → TagRef → Type 0
IsTyped types (tag.Old n) = n < length types
IsTyped types (tag.New n) = Unit {0}

abbrev pub AreTyped : List ℕ → Option Body → Type 0
AreTyped types None = Unit {0}
AreTyped types (Some b) = All (IsTyped types) b.tags

-- where each instance that is carried has a type, further types change nothing
pub record Same (P : TypedProgram) (look : ℕ → Option Body) (types more : List ℕ) (k : Kept) : Type 0 where
  pub wider : AreSets P look types k → AreSets P look (types ++ more) k
  pub narrower : AreSets P look (types ++ more) k → AreSets P look types k

abbrev pub MoreTypes : Type 0
MoreTypes = (P : TypedProgram) (look : ℕ → Option Body) (types more : List ℕ) (k : Kept) → ((x : ℕ) → AreTyped types (look x)) → Same P look types more k

-- the same but for the form of the guard and the room
pub record IsSamePlace (q r : Place) : Type 0 where
  pub class : r.class ≡ q.class
  pub binds : r.binds ≡ q.binds
  pub members : r.objects.members ≡ q.objects.members

pub record AreSame (j k : Kept) : Type 0 where
  pub tasks : Each (AtEachPlace IsSamePlace) j.tasks k.tasks
  pub bound : (c : Binding) → is_bound k.bound c ≡ is_bound j.bound c

-- There is one value of the sets. So an update from a body to another, and one back, give the sets that were there.
abbrev pub OneSets : Type 0
OneSets = (P : TypedProgram) (look : ℕ → Option Body) (types : List ℕ) (j k : Kept) → AllRise j.tasks → AllRise k.tasks → AreSets P look types j → AreSets P look types k → AreSame j k

-- a task has a place for each parameter, of its class
abbrev pub PlacesOfParams : Type 0
PlacesOfParams = (P : TypedProgram) (look : ℕ → Option Body) (types : List ℕ) (k : Kept) (class : Option ℕ) → AreSets P look types k → places_of class k.tasks ≡ params_of class P.tasks

-- an update, and the one back
abbrev pub PutBack : Type 0
PutBack = (P : TypedProgram) (look : ℕ → Option Body) (types : List ℕ) (k : Kept) (id : ℕ) (new : Option Body) → AreSets P (put_look id (look id) (put_look id new look)) types k → AreSets P look types k

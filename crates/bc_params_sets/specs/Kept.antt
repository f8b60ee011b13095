-- What the kept sets say of invocations, and of which store they are.
use Rattle.std.specs.Prelude.{◌≡◌, ℕ, ◌<◌, ◌^◌, Bool, true, false, ◌&&◌, ◌==◌, List, [], ◌∷◌, length, slice_get, Option}
use Rattle.std.specs.List.{list_all, list_any}
use Rattle.bc_data.specs.Typed.{TypedParam, TypedProgram, TypedTask}
use Rattle.bc_data.specs.Guard.{guard_truth}
use Rattle.bc_data.specs.declared.run.Body.{Body}
use Rattle.bc_data.specs.declared.run.Invocation.{Invocation}
use Rattle.bc_flags.specs.Met.{is_met}
use Rattle.bc_mean.specs.Enabled.{is_some_and, is_class, is_instance, are_different}
use Rattle.bc_params_sets.specs.declared.tag_index.Binding.{Binding}
use Rattle.bc_params_sets.specs.declared.place.Place.{Place}
use Rattle.bc_params_sets.specs.declared.place.TaskSets.{TaskSets}
use Rattle.bc_params_sets.specs.Members.{has}
use Rattle.bc_params_sets.specs.Bindings.{is_bound}

-- the sets of each task, and the bindings of all objects
pub record Kept : Type 0 where
  pub tasks : List TaskSets
  pub bound : List Binding

-- the object is in the set of the place
abbrev pub is_in : Place → ℕ → Bool
is_in q x = has q.objects.members x

-- the object carries the instance that the variable names, of the variable's type
abbrev pub carries_by : TaskSets → List Binding → List ℕ → ℕ → ℕ → Bool
carries_by t bound instances x variable =
    is_some_and (slice_get t.variables variable) (λ type.
    is_some_and (slice_get instances variable) (λ n. is_bound bound (record { object = x; tag_type = type; instance = n })))

abbrev pub takes_by : TaskSets → List Binding → List ℕ → Place → ℕ → Bool
takes_by t bound instances q x = is_in q x && list_all (carries_by t bound instances x) q.binds

-- one object for each place
abbrev pub take_all_by : TaskSets → List Binding → List ℕ → List Place → List ℕ → Bool
take_all_by t bound instances [] [] = true
take_all_by t bound instances (q ∷ qs) (x ∷ xs) = takes_by t bound instances q x && take_all_by t bound instances qs xs
take_all_by t bound instances [] (x ∷ xs) = false
take_all_by t bound instances (q ∷ qs) [] = false

-- enabled, as the sets and bindings tell
abbrev pub is_enabled_by : Kept → Invocation → Bool
is_enabled_by k v =
    is_some_and (slice_get k.tasks v.task) (λ t.
    (length v.tags == length t.variables) && take_all_by t k.bound v.tags t.places v.objects && are_different v.objects)

-- an object that fits a parameter, but for its tags
abbrev pub fits : TypedParam → Option Body → Bool
fits p o = is_some_and o (λ b. is_class p.class b.kind && guard_truth p.guard b.flags)

-- the object carries the instance, which has this type
abbrev pub is_carried : (ℕ → Option Body) → List ℕ → Binding → Bool
is_carried look types c =
    is_some_and (look c.object) (λ b.
    list_any (is_instance c.instance) b.tags && is_some_and (slice_get types c.instance) (λ own. own == c.tag_type))

-- The place is that of the parameter, and its set has exactly the objects that fit.
pub record IsPlace (look : ℕ → Option Body) (p : TypedParam) (q : Place) : Type 0 where
  pub class : q.class ≡ p.class
  pub guard : (mask : ℕ) → mask < 2 ^ 32 → is_met q.guard mask ≡ guard_truth p.guard mask
  pub binds : q.binds ≡ p.binds
  pub objects : (x : ℕ) → is_in q x ≡ fits p (look x)

abbrev pub ArePlaces : (ℕ → Option Body) → List TypedParam → List Place → Type 0
ArePlaces look [] [] = Unit {0}
ArePlaces look (p ∷ ps) (q ∷ qs) = IsPlace look p q × ArePlaces look ps qs
ArePlaces look [] (q ∷ qs) = ⊥
ArePlaces look (p ∷ ps) [] = ⊥

pub record IsTaskSets (look : ℕ → Option Body) (t : TypedTask) (s : TaskSets) : Type 0 where
  pub places : ArePlaces look t.params s.places
  pub variables : s.variables ≡ t.variables

abbrev pub AreTasks : (ℕ → Option Body) → List TypedTask → List TaskSets → Type 0
AreTasks look [] [] = Unit {0}
AreTasks look (t ∷ ts) (s ∷ ss) = IsTaskSets look t s × AreTasks look ts ss
AreTasks look [] (s ∷ ss) = ⊥
AreTasks look (t ∷ ts) [] = ⊥

-- The sets are those of a program over these bodies and instances: at each place exactly the objects that fit, and as
-- bindings exactly those of instances to the objects that carry them.
pub record AreSets (P : TypedProgram) (look : ℕ → Option Body) (types : List ℕ) (k : Kept) : Type 0 where
  pub tasks : AreTasks look P.tasks k.tasks
  pub bound : (c : Binding) → is_bound k.bound c ≡ is_carried look types c

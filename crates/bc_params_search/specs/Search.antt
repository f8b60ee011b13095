-- The search for the enabled invocations of a task that name an object: object after object, and then instance after instance.
use Rattle.std.specs.Prelude.{◌≡◌, ℕ, Bool, true, false, not, ◌&&◌, ◌||◌, ◌==◌, if◌then◌else◌, List, [], ◌∷◌, ◌++◌, length, take, filter, slice_get, Option, Some, None}
use Rattle.std.specs.List.{flat_map}
use Rattle.bc_data.specs.declared.run.Invocation.{Invocation}
use Rattle.bc_mean.specs.Enabled.{is_some_and, are_different}
use Rattle.bc_mean.specs.Orders.{IsAscending}
use Rattle.bc_mean.specs.Serial.{listed}
use Rattle.bc_params_sets.specs.declared.place.Place.{Place}
use Rattle.bc_params_sets.specs.declared.place.TaskSets.{TaskSets}
use Rattle.bc_params_sets.specs.declared.tag_index.Binding.{Binding}
use Rattle.bc_params_sets.specs.Members.{has}
use Rattle.bc_params_sets.specs.Bindings.{is_bound}
use Rattle.bc_params_sets.specs.Kept.{take_all_by}
use Rattle.bc_params_search.specs.Tuples.{names}

-- a task's sets and its number, all bindings, the object, and how many invocations are wanted
pub record Sought : Type 0 where
  pub task : TaskSets
  pub bound : List Binding
  pub number : ℕ
  pub id : ℕ
  pub most : ℕ

-- an enabled invocation, if it is of the task, that names the object
abbrev pub is_sought : Sought → Invocation → Bool
is_sought s v =
    (length v.tags == length s.task.variables) && take_all_by s.task s.bound v.tags s.task.places v.objects && are_different v.objects && names s.id v

-- the invocation of these objects and instances, if it is sought
abbrev pub only_if_sought : Sought → List ℕ → List ℕ → List Invocation
only_if_sought s objects tags =
    let v : Invocation = record { task = s.number; objects = objects; tags = tags } in
    if is_sought s v then v ∷ [] else []

-- ascending, and of the task all that are sought
pub record AreAll (s : Sought) (all : List Invocation) : Type 0 where
  pub ascending : IsAscending all
  pub members : (v : Invocation) → v.task ≡ s.number → listed all v ≡ is_sought s v

abbrev pub begins : List ℕ → List ℕ → Bool
begins [] ys = true
begins (x ∷ xs) [] = false
begins (x ∷ xs) (y ∷ ys) = (x == y) && begins xs ys

-- of this task, with objects and instances that begin so
abbrev pub goes_on : ℕ → List ℕ → List ℕ → Invocation → Bool
goes_on n objects tags v = (v.task == n) && begins objects v.objects && begins tags v.tags

-- The first found ones, and then the first of those that f picks among all.
abbrev pub Adds : Sought → (List Invocation → List Invocation) → List Invocation → List Invocation → Type 0
Adds s f old new = (all : List Invocation) → AreAll s all → new ≡ take s.most (old ++ f all)

abbrev pub picked : Sought → List ℕ → List ℕ → List Invocation → List Invocation
picked s objects tags all = filter (goes_on s.number objects tags) all

-- those with one of these objects next
abbrev pub by_objects : Sought → List ℕ → List ℕ → List Invocation → List Invocation
by_objects s front xs all = flat_map (λ x. picked s (front ++ x ∷ []) [] all) xs

-- those with one of these instances next
abbrev pub by_instances : Sought → List ℕ → List ℕ → List Binding → List Invocation → List Invocation
by_instances s objects front bs all = flat_map (λ b. picked s objects (front ++ b.instance ∷ []) all) bs

-- The next object of what is sought, behind these, is one of xs.
pub record Covers (s : Sought) (front xs : List ℕ) : Type 0 where
  pub each : (v : Invocation) → is_sought s v ≡ true → begins front v.objects ≡ true → is_some_and (slice_get v.objects (length front)) (has xs) ≡ true

abbrev pub has_none : Place → Bool
has_none q = length q.objects.members == 0

-- Nothing that is sought has these objects in front.
abbrev pub NoneBegins : Sought → List ℕ → Type 0
NoneBegins s front = (v : Invocation) → is_sought s v ≡ true → begins front v.objects ≡ true → ⊥

-- the object at the first place that binds the variable
abbrev pub binder : List Place → List ℕ → ℕ → Option ℕ
binder [] xs b = None
binder (q ∷ qs) [] b = None
binder (q ∷ qs) (x ∷ xs) b = if has q.binds b then Some x else binder qs xs b

-- the object at each place that binds the variable carries this instance
abbrev pub all_carry : List Binding → List Place → List ℕ → ℕ → ℕ → ℕ → Bool
all_carry bound [] xs b type n = true
all_carry bound (q ∷ qs) [] b type n = true
all_carry bound (q ∷ qs) (x ∷ xs) b type n =
    (not (has q.binds b) || is_bound bound (record { object = x; tag_type = type; instance = n })) && all_carry bound qs xs b type n

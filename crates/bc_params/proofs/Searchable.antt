-- What a search asks of the tasks: limits, and that each variable is bound.
use Rattle.std.proofs.Common.{◌≡◌, ℕ, Option, zero, suc, ◌<◌, ◌≤◌, Bool, true, false, ◌&&◌, ◌||◌, ◌==◌, List, [], ◌∷◌, length, map, get_or, refl, sym, ap, ap₂, ◌∙◌, subst, arith, eq-eqb}
use Rattle.std.proofs.lemmas.List.{length-map}
use Rattle.std.specs.Prelude.{Contains, take, filter, slice_get}
use Rattle.std.specs.List.{list_any, All, AllByRecursion}
use Rattle.std.proofs.lemmas.Bool.{or_left, or_right}
use Rattle.std.proofs.lemmas.List.Folds.{list_any_at}
use Rattle.std.proofs.lemmas.List.Elements.{All-cons, All-nil}
use Rattle.bc_data.specs.Typed.{TypedParam, TypedTask, TypedProgram}
use Rattle.bc_data.specs.WellTyped.{IsTask, IsWellTyped}
use Rattle.bc_data.specs.declared.run.Body.{Body}
use Rattle.bc_data.specs.declared.run.Invocation.{Invocation}
use Rattle.bc_mean.specs.declared.plain.Plain.{Plain}
use Rattle.bc_mean.specs.Enabled.{all_enabled}
use Rattle.bc_mean.specs.Orders.{IsAscending}
use Rattle.bc_mean.specs.Serial.{listed}
use Rattle.bc_params_sets.specs.declared.place.Place.{Place}
use Rattle.bc_params_sets.specs.declared.place.TaskSets.{TaskSets}
use Rattle.bc_params_sets.specs.Members.{has}
use Rattle.bc_params_sets.specs.Kept.{Kept, IsTaskSets, ArePlaces, AreTasks, AreSets, is_enabled_by}
use Rattle.bc_params_search.specs.Tuples.{AreFew, IsSmall, IsBound, names}
use Rattle.bc_params_search.proofs.Sets.{tuples_are_enabled}
use Rattle.bc_params_search.specs.Laws.{BindsAll}
use Rattle.bc_params.specs.Look.{nobody}
use Rattle.bc_params.specs.Places.{Each, AtEachPlace, IsUpdated, IsRoomier, IsSearchable}
use Rattle.bc_params.specs.declared.places.Update.{Update}
use Rattle.bc_params.proofs.Pairs.{all_through, all_head, all_tail, zipped}
use Rattle.std.specs.List.{AllZip}

-- a number at some place of a list is in it
has_at : (xs : List ℕ) (k x : ℕ) → k < length xs → get_or xs k x ≡ x → has xs x ≡ true
has_at xs k x l e = list_any_at (λ y. y == x) xs k x l (eq-eqb (get_or xs k x) x e)

-- a parameter at some place of a viewed list that binds the variable
any_viewed : (b : ℕ) (p : TypedParam) (ps : List TypedParam) (k : ℕ) → k < length ps → get_or ps k p ≡ p → has p.binds b ≡ true
    → list_any (λ q. has q.binds b) ps ≡ true
any_viewed b p [] k l e h = absurd (omega arith)
any_viewed b p (q ∷ qs) zero l e h = or_left (has q.binds b) (list_any (λ q. has q.binds b) qs) (ap (λ (r : TypedParam). has r.binds b) e ∙ h)
any_viewed b p (q ∷ qs) (suc k) l e h = or_right (has q.binds b) (list_any (λ q. has q.binds b) qs) (any_viewed b p qs k (omega arith) e h)

task_binds : (P : TypedProgram) (t : TypedTask) → IsTask P t → BindsAll t
task_binds P t typed b h =
    let found = typed.bound b h in
    any_viewed b found.0 t.params found.1.0 found.1.1 found.1.2 (has_at found.0.binds found.2.0 b found.2.1 found.2.2)

tasks_bind : (P : TypedProgram) (ts : List TypedTask) → All (IsTask P) ts → All BindsAll ts
tasks_bind P [] h = All-nil BindsAll
tasks_bind P (t ∷ ts) h = All-cons BindsAll t ts (task_binds P t (all_head (IsTask P) t ts h)) (tasks_bind P ts (all_tail (IsTask P) t ts h))

pub program_binds : (P : TypedProgram) → IsWellTyped P → All BindsAll P.tasks
program_binds P typed = tasks_bind P P.tasks typed.tasks

-- the places of a task have the binds of its parameters
places_bind : (look : ℕ → Option Body) (b : ℕ) (ps : List TypedParam) (qs : List Place) → ArePlaces look ps qs → list_any (λ q. has q.binds b) qs ≡ list_any (λ p. has p.binds b) ps
places_bind look b [] [] a = refl
places_bind look b [] (q ∷ qs) a = absurd a
places_bind look b (p ∷ ps) [] a = absurd a
places_bind look b (p ∷ ps) (q ∷ qs) a = ap₂ (λ (x : Bool) (y : Bool). x || y) (ap (λ (bs : List ℕ). has bs b) a.0.binds) (places_bind look b ps qs a.1)

places_long : (look : ℕ → Option Body) (ps : List TypedParam) (qs : List Place) → ArePlaces look ps qs → length qs ≡ length ps
places_long look [] [] a = refl
places_long look [] (q ∷ qs) a = absurd a
places_long look (p ∷ ps) [] a = absurd a
places_long look (p ∷ ps) (q ∷ qs) a = ap suc (places_long look ps qs a.1)

tasks_long : (look : ℕ → Option Body) (ts : List TypedTask) (ss : List TaskSets) → AreTasks look ts ss → length ss ≡ length ts
tasks_long look [] [] a = refl
tasks_long look [] (s ∷ ss) a = absurd a
tasks_long look (t ∷ ts) [] a = absurd a
tasks_long look (t ∷ ts) (s ∷ ss) a = ap suc (tasks_long look ts ss a.1)

small_task : (P : TypedProgram) (look : ℕ → Option Body) (t : TypedTask) (s : TaskSets) → IsTask P t → IsTaskSets look t s → IsSmall s
small_task P look t s typed a = record {
  places = omega (arith, places_long look t.params s.places a.places, typed.few_params);
  variables = omega (arith, ap length a.variables, typed.few_variables);
}

bound_task : (P : TypedProgram) (look : ℕ → Option Body) (t : TypedTask) (s : TaskSets) → IsTask P t → IsTaskSets look t s → IsBound s
bound_task P look t s typed a b h =
    places_bind look b t.params s.places a.places ∙ task_binds P t typed b (omega (arith, ap length a.variables, h))

small_tasks : (P : TypedProgram) (look : ℕ → Option Body) (ts : List TypedTask) (ss : List TaskSets) → All (IsTask P) ts → AreTasks look ts ss → All IsSmall ss
small_tasks P look [] [] h a = All-nil IsSmall
small_tasks P look [] (s ∷ ss) h a = absurd a
small_tasks P look (t ∷ ts) [] h a = absurd a
small_tasks P look (t ∷ ts) (s ∷ ss) h a =
    All-cons IsSmall s ss (small_task P look t s (all_head (IsTask P) t ts h) a.0) (small_tasks P look ts ss (all_tail (IsTask P) t ts h) a.1)

bound_tasks : (P : TypedProgram) (look : ℕ → Option Body) (ts : List TypedTask) (ss : List TaskSets) → All (IsTask P) ts → AreTasks look ts ss → All IsBound ss
bound_tasks P look [] [] h a = All-nil IsBound
bound_tasks P look [] (s ∷ ss) h a = absurd a
bound_tasks P look (t ∷ ts) [] h a = absurd a
bound_tasks P look (t ∷ ts) (s ∷ ss) h a =
    All-cons IsBound s ss (bound_task P look t s (all_head (IsTask P) t ts h) a.0) (bound_tasks P look ts ss (all_tail (IsTask P) t ts h) a.1)

-- the sets of a well typed program can be searched
pub program_searchable : (P : TypedProgram) (look : ℕ → Option Body) (ss : List TaskSets) → IsWellTyped P → AreTasks look P.tasks ss → IsSearchable ss
program_searchable P look ss typed a = record {
  few = record {
    tasks = omega (arith, tasks_long look P.tasks ss a, typed.few_tasks);
    each = small_tasks P look P.tasks ss typed.tasks a;
  };
  bound = bound_tasks P look P.tasks ss typed.tasks a;
}

-- so they can be where each place keeps its binds
abbrev KeepsBinds : (Place → Place → Type 0) → Type 0
KeepsBinds R = (q r : Place) → R q r → r.binds ≡ q.binds

zip_binds : (R : Place → Place → Type 0) → KeepsBinds R → (b : ℕ) (qs rs : List Place) → AllZip R qs rs → list_any (λ q. has q.binds b) rs ≡ list_any (λ q. has q.binds b) qs
zip_binds R keeps b [] [] z = refl
zip_binds R keeps b [] (r ∷ rs) z = absurd z
zip_binds R keeps b (q ∷ qs) [] z = absurd z
zip_binds R keeps b (q ∷ qs) (r ∷ rs) z = ap₂ (λ (x : Bool) (y : Bool). x || y) (ap (λ (bs : List ℕ). has bs b) (keeps q r z.0)) (zip_binds R keeps b qs rs z.1)

searchable_through : (R : Place → Place → Type 0) → KeepsBinds R → (ts ss : List TaskSets) → Each (AtEachPlace R) ts ss → IsSearchable ts → IsSearchable ss
searchable_through R keeps ts ss each h = record {
  few = record {
    tasks = omega (arith, each.size, h.few.tasks);
    each = all_through (AtEachPlace R) IsSmall IsSmall (λ t s e small. record {
      places = omega (arith, e.places.size, small.places);
      variables = omega (arith, ap length e.variables, small.variables);
    }) ts ss each h.few.each;
  };
  bound = all_through (AtEachPlace R) IsBound IsBound (λ t s e bound b l.
      zip_binds R keeps b t.places s.places (zipped R t.places s.places e.places) ∙ bound b (omega (arith, ap length e.variables, l))) ts ss each h.bound;
}

pub updated_searchable : (u : Update) (ts ss : List TaskSets) → Each (AtEachPlace (IsUpdated u)) ts ss → IsSearchable ts → IsSearchable ss
updated_searchable u ts ss each h = searchable_through (IsUpdated u) (λ q r e. e.binds) ts ss each h

pub roomier_searchable : (ts ss : List TaskSets) → Each (AtEachPlace IsRoomier) ts ss → IsSearchable ts → IsSearchable ss
roomier_searchable ts ss each h = searchable_through IsRoomier (λ q r e. e.binds) ts ss each h

-- What a search finds by the sets are the first enabled invocations that name the object.
pub found_enabled : (k : Kept) (id most : ℕ) (vs : List Invocation)
    → ((all : List Invocation) → IsAscending all → ((v : Invocation) → listed all v ≡ (is_enabled_by k v && names id v)) → vs ≡ take most all)
    → (P : TypedProgram) (S : Plain) → IsWellTyped P → AreSets P (slice_get S.bodies) S.tags k → vs ≡ take most (filter (names id) (all_enabled P S))
found_enabled k id most vs h P S typed a =
    let t = tuples_are_enabled P S k id (program_binds P typed) a in
    h (filter (names id) (all_enabled P S)) t.ascending t.members

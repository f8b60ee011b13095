-- The list of all enabled invocations, as it is made: object after object, and then instance after instance.
use Rattle.std.specs.Prelude.{ℕ, ◌≤◌, Bool, true, ◌&&◌, ◌==◌, nat_lt, if◌then◌else◌, List, [], ◌∷◌, ◌++◌, length, slice_get, Option, Some, None}
use Rattle.std.specs.List.{flat_map, list_all}
use Rattle.bc_data.specs.Limits.{most_instances, most_objects}
use Rattle.bc_data.specs.Guard.{guard_truth}
use Rattle.bc_data.specs.Typed.{TypedParam, TypedTask}
use Rattle.bc_data.specs.declared.run.Invocation.{Invocation}
use Rattle.bc_mean.specs.declared.plain.Plain.{Plain}
use Rattle.bc_mean.specs.Enabled.{is_some_and, is_class, take_all, are_different, tuples}

-- An invocation of this task is enabled.
abbrev pub is_enabled_of : TypedTask → Plain → List ℕ → List ℕ → Bool
is_enabled_of t S objects instances =
    (length instances == length t.variables) && take_all S t instances t.params objects && are_different objects
    && list_all (λ n. nat_lt n (length S.tags)) instances

-- These objects may be the first of an enabled invocation of the task: each is of the class of its parameter and meets its
-- guard, and no two are the same.
abbrev pub may_stand : Plain → TypedParam → ℕ → Bool
may_stand S p id = is_some_and (slice_get S.bodies id) (λ b. is_class p.class b.kind && guard_truth p.guard b.flags)

abbrev pub may_stand_all : Plain → List TypedParam → List ℕ → Bool
may_stand_all S [] ids = true
may_stand_all S (p ∷ ps) [] = true
may_stand_all S (p ∷ ps) (id ∷ ids) = may_stand S p id && may_stand_all S ps ids

abbrev pub may_begin : TypedTask → Plain → List ℕ → Bool
may_begin t S front = may_stand_all S t.params front && are_different front

-- what is listed for each list of k numbers below n, behind these numbers
abbrev pub listed_behind : (List ℕ → List Invocation) → ℕ → List ℕ → ℕ → List Invocation
listed_behind list n front k = flat_map (λ rest. list (front ++ rest)) (tuples n k)

-- the invocation of this task, if it is enabled
abbrev pub enabled_with : TypedTask → Plain → ℕ → List ℕ → List ℕ → List Invocation
enabled_with t S n objects instances = if is_enabled_of t S objects instances then record { task = n; objects = objects; tags = instances } ∷ [] else []

-- the enabled invocations of a task on these objects
abbrev pub enabled_on : TypedTask → Plain → ℕ → List ℕ → List Invocation
enabled_on t S n objects = listed_behind (enabled_with t S n objects) (length S.tags) [] (length t.variables)

abbrev pub enabled_of : Plain → ℕ → Option TypedTask → List Invocation
enabled_of S n None = []
enabled_of S n (Some t) = listed_behind (enabled_on t S n) (length S.bodies) [] (length t.params)

-- the numbers of objects and instances fit their types
pub record IsNumbered (S : Plain) : Type 0 where
  pub objects : length S.bodies ≤ most_objects
  pub instances : length S.tags ≤ most_instances

-- When an invocation is enabled, and the list of all that are.
use Rattle.std.specs.Prelude.{◌≡◌, ℕ, zero, suc, Bool, true, false, not, ◌&&◌, ◌==◌, nat_lt, List, [], ◌∷◌, length, map, filter, slice_get, Option, Some, None}
use Rattle.std.specs.List.{range_with_len, flat_map, list_all, list_any}
use Rattle.bc_data.specs.Typed.{TypedProgram, TypedTask, TypedParam}
use Rattle.bc_data.specs.Guard.{guard_truth}
use Rattle.bc_data.specs.declared.run.TagRef.{TagRef}
use Rattle.bc_data.specs.declared.run.TagRef.TheVariants as tag
use Rattle.bc_data.specs.declared.run.Kind.{Kind}
use Rattle.bc_data.specs.declared.run.Kind.TheVariants as kind
use Rattle.bc_data.specs.declared.run.Body.{Body}
use Rattle.bc_data.specs.declared.run.Invocation.{Invocation}
use Rattle.bc_mean.specs.declared.plain.Plain.{Plain}

-- the test of the value, or false where there is none
abbrev pub is_some_and : {A : Type 0} → Option A → (A → Bool) → Bool
is_some_and None test = false
is_some_and (Some x) test = test x

abbrev pub is_class : ℕ → Kind → Bool
is_class c (kind.Class d) = d == c
is_class c kind.Ints = false
is_class c kind.Bools = false
is_class c (kind.Objects d) = false

abbrev pub is_instance : ℕ → TagRef → Bool
is_instance n (tag.Old m) = m == n
is_instance n (tag.New m) = false

-- The object has the instance that the variable names, and the instance has the variable's type.
abbrev pub carries : Plain → TypedTask → List ℕ → Body → ℕ → Bool
carries S t instances b variable =
    is_some_and (slice_get t.variables variable) (λ type.
    is_some_and (slice_get instances variable) (λ n.
    list_any (is_instance n) b.tags && is_some_and (slice_get S.tags n) (λ own. own == type)))

-- An object is there for a parameter: of its class, its flags meet the guard, and it has the instances.
abbrev pub takes : Plain → TypedTask → List ℕ → TypedParam → ℕ → Bool
takes S t instances p id =
    is_some_and (slice_get S.bodies id) (λ b.
    is_class p.class b.kind && guard_truth p.guard b.flags && list_all (carries S t instances b) p.binds)

-- one object for each parameter
abbrev pub take_all : Plain → TypedTask → List ℕ → List TypedParam → List ℕ → Bool
take_all S t instances [] [] = true
take_all S t instances (p ∷ ps) (id ∷ ids) = takes S t instances p id && take_all S t instances ps ids
take_all S t instances [] (id ∷ ids) = false
take_all S t instances (p ∷ ps) [] = false

abbrev pub are_different : List ℕ → Bool
are_different [] = true
are_different (id ∷ ids) = not (list_any (λ other. other == id) ids) && are_different ids

-- Each instance that is named is there, also one that no parameter binds, so that the enabled invocations are those listed
-- below for every value of a program.
abbrev pub is_enabled : TypedProgram → Plain → Invocation → Bool
is_enabled P S v =
    is_some_and (slice_get P.tasks v.task) (λ t.
    (length v.tags == length t.variables) && take_all S t v.tags t.params v.objects && are_different v.objects
    && list_all (λ n. nat_lt n (length S.tags)) v.tags)

abbrev pub IsEnabled : TypedProgram → Plain → Invocation → Type 0
IsEnabled P S v = is_enabled P S v ≡ true

-- every list of k numbers below n, ascending
abbrev pub tuples : ℕ → ℕ → List (List ℕ)
tuples n zero = [] ∷ []
tuples n (suc k) = flat_map (λ x. map (λ xs. x ∷ xs) (tuples n k)) (range_with_len 0 n)

-- a task's invocations: objects for its parameters, then instances for its tag variables
abbrev pub invocations_of : Plain → ℕ → Option TypedTask → List Invocation
invocations_of S n None = []
invocations_of S n (Some t) =
    flat_map (λ objects. map (λ instances. record { task = n; objects = objects; tags = instances }) (tuples (length S.tags) (length t.variables)))
    (tuples (length S.bodies) (length t.params))

-- all that can be named, by task, then objects, then instances
abbrev pub all_invocations : TypedProgram → Plain → List Invocation
all_invocations P S = flat_map (λ n. invocations_of S n (slice_get P.tasks n)) (range_with_len 0 (length P.tasks))

unfoldable pub all_enabled : TypedProgram → Plain → List Invocation
all_enabled P S = filter (is_enabled P S) (all_invocations P S)

-- The search by sets and the enabled invocations of a store, as facts that contracts name.
use Rattle.std.specs.Prelude.{◌≡◌, ℕ, ◌<◌, true, length, filter, slice_get, All}
use Rattle.std.specs.List.{list_any}
use Rattle.bc_data.specs.Typed.{TypedProgram, TypedTask}
use Rattle.bc_data.specs.declared.run.Invocation.{Invocation}
use Rattle.bc_mean.specs.declared.plain.Plain.{Plain}
use Rattle.bc_mean.specs.Enabled.{is_enabled, all_enabled}
use Rattle.bc_params_sets.specs.Members.{has}
use Rattle.bc_params_sets.specs.Kept.{Kept, AreSets, is_enabled_by}
use Rattle.bc_params_search.specs.Tuples.{AreTuples, names}

-- some parameter binds each variable of a task
abbrev pub BindsAll : TypedTask → Type 0
BindsAll t = (b : ℕ) → b < length t.variables → list_any (λ p. has p.binds b) t.params ≡ true

-- The sets tell what is enabled.
abbrev pub EnabledBySets : Type 0
EnabledBySets =
    (P : TypedProgram) (S : Plain) (k : Kept)
    → All BindsAll P.tasks
    → AreSets P (slice_get S.bodies) S.tags k
    → (v : Invocation)
    → is_enabled_by k v ≡ is_enabled P S v

-- The enabled invocations that name an object, ascending, are those of the list of all.
abbrev pub TuplesAreEnabled : Type 0
TuplesAreEnabled =
    (P : TypedProgram) (S : Plain) (k : Kept) (id : ℕ)
    → All BindsAll P.tasks
    → AreSets P (slice_get S.bodies) S.tags k
    → AreTuples k id (filter (names id) (all_enabled P S))

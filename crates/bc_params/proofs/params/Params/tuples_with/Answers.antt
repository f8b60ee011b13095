use Rattle.std.proofs.Common.{◌≡◌, ◌&&◌, List, sym, subst}
use Rattle.std.specs.Prelude.{take, filter}
use Rattle.std.proofs.lemmas.Result.{IfOk-weaker}
use Rattle.bc_data.specs.Typed.{TypedProgram}
use Rattle.bc_data.specs.WellTyped.{IsWellTyped}
use Rattle.bc_data.specs.declared.run.Invocation.{Invocation}
use Rattle.bc_mean.specs.declared.plain.Plain.{Plain}
use Rattle.bc_mean.specs.Enabled.{all_enabled}
use Rattle.bc_mean.specs.Orders.{IsAscending}
use Rattle.bc_mean.specs.Serial.{listed}
use Rattle.bc_mean.specs.Work.{look_of}
use Rattle.bc_params_sets.specs.declared.place.TaskSets.{TaskSets}
use Rattle.bc_params_sets.specs.Kept.{Kept, AreSets, is_enabled_by}
use Rattle.bc_params_search.specs.Tuples.{names}
use Rattle.bc_params.specs.Places.{ParamParts}
use Rattle.bc_params.proofs.Searchable.{found_enabled}
use Rattle.bc_params.proofs.params.Params.tuples_with.Goals as goal

pub returns : goal.returns
returns c =
    let k : Kept = record { tasks = c.as_slice.result.now; bound = c.self.inside.tags.bound } in
    let P : List Invocation → Type 0 =
    λ vs. (all : List Invocation) → IsAscending all → ((v : Invocation) → listed all v ≡ (is_enabled_by k v && names c.args.id v)) → vs ≡ take c.args.most all in
    let Q : List Invocation → Type 0 =
    λ vs. (P : TypedProgram) (S : Plain) → IsWellTyped P → AreSets P (look_of S) S.tags c.args.self.now.kept → vs ≡ take c.args.most (filter (names c.args.id) (all_enabled P S)) in
    IfOk-weaker c.tuples_with.result P Q (λ vs h P S typed a.
    found_enabled k c.args.id c.args.most vs h P S typed
    (subst (λ (ts : List TaskSets). AreSets P (look_of S) S.tags (record { tasks = ts; bound = c.self.inside.tags.bound })) (sym c.as_slice.ensures.value)
    (subst (λ (s : ParamParts). AreSets P (look_of S) S.tags s.kept) (sym c.self.view_is) a))) c.tuples_with.ensures

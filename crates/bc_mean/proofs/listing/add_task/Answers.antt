use Rattle.std.proofs.Common.{◌≡◌, ap₂, ◌≤◌, ◌++◌, List, length, append-nil, ap, sym, subst, ◌∙◌, arith, Option}
use Rattle.std.specs.Prelude.{OnOk, slice_get}
use Rattle.bc_data.specs.Typed.{TypedParam, TypedTask}
use Rattle.bc_data.specs.declared.run.Invocation.{Invocation}
use Rattle.bc_mean.specs.Listing.{listed_behind, enabled_on, enabled_of}
use Rattle.bc_mean.proofs.Tuples.{few_parts}
use Rattle.bc_mean.proofs.listing.add_task.Goals as goal

pub add_objects-requires-clause-few_variables : goal.add_objects-requires-clause-few_variables
add_objects-requires-clause-few_variables c = (few_parts c.args.program.now c.args.number c.in-Some.task.now c.is_well_typed.ensures c.in-Some.ensures).1

pub add_objects-requires-clause-few : goal.add_objects-requires-clause-few
add_objects-requires-clause-few c =
    let few = few_parts c.args.program.now c.args.number c.in-Some.task.now c.is_well_typed.ensures c.in-Some.ensures in
    let params : length c.params-params.result.now ≤ 4 = subst (λ (ps : List TypedParam). length ps ≤ 4) (sym c.params-params.ensures) few.0 in
    let none : length c.none.result ≡ 0 = ap length c.none.ensures in
    omega arith

pub returns-in-None : goal.returns-in-None
returns-in-None c =
    sym (ap (λ (o : Option TypedTask). c.args.found.now ++ enabled_of c.args.store.now c.args.number o) (sym c.in-None.ensures) ∙ append-nil c.args.found.now)

pub returns-in-Some : goal.returns-in-Some
returns-in-Some c =
    let params : length c.params-params.result.now ≡ length c.in-Some.task.now.params = ap length c.params-params.ensures in
    let e : listed_behind (enabled_on c.in-Some.task.now c.args.store.now c.args.number) (length c.args.store.now.bodies) c.none.result (length c.params-params.result.now) ≡ enabled_of c.args.store.now c.args.number (slice_get c.args.program.now.tasks c.args.number) =
    ap₂ (listed_behind (enabled_on c.in-Some.task.now c.args.store.now c.args.number) (length c.args.store.now.bodies)) c.none.ensures params
    ∙ ap (enabled_of c.args.store.now c.args.number) c.in-Some.ensures
    in
    subst (λ (ys : List Invocation). OnOk c.add_objects.result (c.add_objects.new.found ≡ c.args.found.now ++ ys)) e c.add_objects.ensures

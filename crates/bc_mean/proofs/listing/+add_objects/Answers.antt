use Rattle.std.proofs.Common.{◌≡◌, false, append-nil, ◌-◌, List, ◌++◌, length, ap, ap₂, sym, subst, ◌∙◌, arith}
use Rattle.std.specs.Prelude.{OnOk}
use Rattle.bc_data.specs.declared.run.Invocation.{Invocation}
use Rattle.bc_mean.specs.Listing.{may_begin, listed_behind, enabled_with, enabled_on}
use Rattle.bc_mean.proofs.Tuples.{behind_all, behind_none, behind_nothing, behind_step}
use Rattle.bc_mean.proofs.listing.+add_objects.Goals as goal

pub returns-then-left-eq0 : goal.returns-then-left-eq0
returns-then-left-eq0 t c =
    let list = enabled_on c.args.task.now c.args.store.now c.args.number in
    let behind = listed_behind (enabled_with c.args.task.now c.args.store.now c.args.number c.args.front) (length c.args.store.now.tags) in
    let variables : length c.variables-variables.result.now ≡ length c.args.task.now.variables = ap length c.variables-variables.ensures in
    let e : behind c.none.result (length c.variables-variables.result.now) ≡ listed_behind list (length c.args.store.now.bodies) c.args.front c.args.left =
    ap₂ behind c.none.ensures variables
    ∙ sym (ap (listed_behind list (length c.args.store.now.bodies) c.args.front) c.if-left-eq0.true ∙ behind_none list (length c.args.store.now.bodies) c.args.front)
    in
    subst (λ (zs : List Invocation). OnOk c.add_instances.result (c.add_instances.new.found ≡ c.args.found.now ++ zs)) e c.add_instances.ensures

pub returns-then-not-may_begin : goal.returns-then-not-may_begin
returns-then-not-may_begin t c =
    let never : may_begin c.args.task.now c.args.store.now c.args.front ≡ false =
    ap (may_begin c.args.task.now c.args.store.now) (sym c.as_slice.ensures.value) ∙ sym c.may_begin.ensures ∙ c.if-not-may_begin.true
    in
    sym (ap (λ (ys : List Invocation). c.args.found.now ++ ys) (behind_nothing c.args.task.now c.args.store.now c.args.number (length c.args.store.now.bodies) c.args.front c.args.left never) ∙ append-nil c.args.found.now)

pub loop-id-preserved : goal.loop-id-preserved
loop-id-preserved t c =
    behind_step (enabled_on c.args.task.now c.args.store.now c.args.number) (length c.args.store.now.bodies) c.args.front c.with-longer.result (c.args.left - 1) c.loop-id.id
    c.args.found.now c.loop-id.found c.add_objects.new.found c.with-longer.ensures c.loop-id.invariant c.in_ok-add_objects.ensures

pub returns : goal.returns
returns t c =
    behind_all (enabled_on c.args.task.now c.args.store.now c.args.number) (length c.args.store.now.bodies) c.args.front c.args.left c.loop-id.id
    c.args.found.now c.loop-id.found (omega arith) (omega arith) c.loop-id.invariant

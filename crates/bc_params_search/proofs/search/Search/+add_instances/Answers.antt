use Rattle.std.proofs.Common.{false, length, get_or, None, refl, sym, ap, ◌∙◌, arith}
use Rattle.std.proofs.lemmas.Option.{slice_get_within}
use Rattle.bc_params_search.specs.Search.{Adds, picked}
use Rattle.bc_params_search.proofs.Steps.{adds_one, adds_unbound, no_binding, are_next, binder_is, carry_is, variable_there, full_instances, all_instances, instance_passed, no_variable, ok_weaker}
use Rattle.bc_params_search.proofs.search.Search.+add_instances.Goals as goal

pub returns-in_default-clause-found : goal.returns-in_default-clause-found
returns-in_default-clause-found t c =
    ok_weaker _ (Adds c.args.self.now (picked c.args.self.now c.args.objects c.args.front) c.args.found.now c.add_one.new.found)
    (adds_one c.args.self.now c.args.objects c.args.front c.args.found.now c.add_one.new.found c.requires.objects
    (no_variable c.args.self.now c.self.inside.task.now c.args.front c.len-variable.result (ap (λ s. s.task) c.self.view_is) c.len-variable.ensures.value c.requires.front c.in_default.ensures))
    c.add_one.result c.add_one.ensures.found

pub returns-in_default-binder-clause-found : goal.returns-in_default-binder-clause-found
returns-in_default-binder-clause-found t c =
    let task = ap (λ s. s.task) c.self.view_is in
    let bound = ap (λ s. s.bound) c.self.view_is in
    let there = variable_there c.args.self.now c.self.inside.task.now c.self.inside.tags.now.bound c.args.objects c.args.front c.as_slice-2.result.now c.as_slice.result.now c.len-variable.result c.in-Some.tag_type.now
    task bound c.len-variable.ensures.value c.as_slice-2.ensures.value c.as_slice.ensures c.in-Some.ensures in
    adds_unbound c.args.self.now c.args.objects c.args.front c.args.found.now c.requires.short c.requires.objects c.requires.bound
    (slice_get_within c.args.self.now.task.variables (length c.args.front) c.in-Some.tag_type.now there)
    (binder_is c.args.self.now c.self.inside.task.now c.self.inside.tags.now.bound c.args.objects c.args.front c.as_slice-2.result.now c.as_slice.result.now c.len-variable.result c.in-Some.tag_type.now
    task bound c.len-variable.ensures.value c.as_slice-2.ensures.value c.as_slice.ensures None c.in_default-binder.ensures)

pub returns-then-len-self-clause-found : goal.returns-then-len-self-clause-found
returns-then-len-self-clause-found t c =
    let task = ap (λ s. s.task) c.self.view_is in
    let bound = ap (λ s. s.bound) c.self.view_is in
    let next = are_next c.args.self.now c.self.inside.task.now c.self.inside.tags.now.bound c.args.objects c.args.front c.as_slice-2.result.now c.as_slice.result.now c.len-variable.result c.in-Some.tag_type.now
    task bound c.len-variable.ensures.value c.as_slice-2.ensures.value c.as_slice.ensures
    c.instances_of-binding-items.result.now c.in-Some-binder.object c.requires.objects c.in-Some.ensures c.in-Some-binder.ensures c.instances_of-binding-items.ensures.members c.instances_of-binding-items.ensures.rising in
    full_instances c.args.self.now c.args.objects c.args.front c.instances_of-binding-items.result.now c.in-Some-binder.object c.in-Some.tag_type.now c.args.found.now c.loop-binding.found c.loop-binding.binding-index
    next c.loop-binding.invariant.found (let most = ap (λ s. s.most) c.self.view_is in omega (arith, most, c.len.ensures, c.if-len-self.true))

pub returns-clause-found : goal.returns-clause-found
returns-clause-found t c =
    let task = ap (λ s. s.task) c.self.view_is in
    let bound = ap (λ s. s.bound) c.self.view_is in
    let next = are_next c.args.self.now c.self.inside.task.now c.self.inside.tags.now.bound c.args.objects c.args.front c.as_slice-2.result.now c.as_slice.result.now c.len-variable.result c.in-Some.tag_type.now
    task bound c.len-variable.ensures.value c.as_slice-2.ensures.value c.as_slice.ensures
    c.instances_of-binding-items.result.now c.in-Some-binder.object c.requires.objects c.in-Some.ensures c.in-Some-binder.ensures c.instances_of-binding-items.ensures.members c.instances_of-binding-items.ensures.rising in
    all_instances c.args.self.now c.args.objects c.args.front c.instances_of-binding-items.result.now c.in-Some-binder.object c.in-Some.tag_type.now c.args.found.now c.loop-binding.found c.loop-binding.binding-index
    next c.loop-binding.invariant.found (omega (arith, c.loop-binding-test.false))

pub loop-binding-preserved-then-not-all_carry : goal.loop-binding-preserved-then-not-all_carry
loop-binding-preserved-then-not-all_carry t c =
    let task = ap (λ s. s.task) c.self.view_is in
    let bound = ap (λ s. s.bound) c.self.view_is in
    let next = are_next c.args.self.now c.self.inside.task.now c.self.inside.tags.now.bound c.args.objects c.args.front c.as_slice-2.result.now c.as_slice.result.now c.len-variable.result c.in-Some.tag_type.now
    task bound c.len-variable.ensures.value c.as_slice-2.ensures.value c.as_slice.ensures
    c.instances_of-binding-items.result.now c.in-Some-binder.object c.requires.objects c.in-Some.ensures c.in-Some-binder.ensures c.instances_of-binding-items.ensures.members c.instances_of-binding-items.ensures.rising in
    record {
      short = c.loop-binding.invariant.short;
      found = instance_passed c.args.self.now c.args.objects c.args.front c.instances_of-binding-items.result.now c.in-Some-binder.object c.in-Some.tag_type.now c.args.found.now c.loop-binding.found c.loop-binding.binding-index
          next c.loop-binding.invariant.found (get_or c.instances_of-binding-items.result.now c.loop-binding.binding-index no_binding).instance (omega (arith, c.loop-binding-test.true)) refl
          (carry_is c.args.self.now c.self.inside.task.now c.self.inside.tags.now.bound c.args.objects c.args.front c.as_slice-in-loop-binding-2.result.now c.as_slice-in-loop-binding.result.now c.len-variable.result c.in-Some.tag_type.now
          task bound c.len-variable.ensures.value c.as_slice-in-loop-binding-2.ensures.value c.as_slice-in-loop-binding.ensures false _ (sym c.if-not-all_carry.true ∙ c.all_carry.ensures));
    }

pub with-requires : goal.with-requires
with-requires t c =
    let there = slice_get_within c.self.inside.task.now.variables c.len-variable.result c.in-Some.tag_type.now (sym c.in-Some.ensures) in
    let few = c.requires.small.variables in
    let size = ap (λ s. length s.task.variables) c.self.view_is in
    omega (arith, there, few, size, c.len-variable.ensures.value)

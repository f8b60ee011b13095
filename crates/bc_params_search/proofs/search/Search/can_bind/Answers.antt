use Rattle.std.proofs.Common.{List, sym, ap, ap₂, ◌∙◌, subst}
use Rattle.std.specs.Prelude.{slice_get}
use Rattle.std.specs.List.{list_any}
use Rattle.bc_params_sets.specs.declared.place.Place.{Place}
use Rattle.bc_params_sets.specs.declared.tag_index.Binding.{Binding}
use Rattle.bc_params_search.specs.Search.{binder, all_carry}
use Rattle.bc_params_search.proofs.NextInstance.{IsOf}
use Rattle.bc_params_search.proofs.Near.{none_typed, none_carried}
use Rattle.bc_params_search.proofs.search.Search.can_bind.Goals as goal

pub returns-in_default-get : goal.returns-in_default-get
returns-in_default-get c = λ _.
    none_typed c.args.self.now c.args.objects.now c.args.variable c.in-Some.object
    (sym (c.in-Some.ensures ∙ ap (λ qs. binder qs c.args.objects.now c.args.variable) (c.as_slice-places.ensures ∙ ap (λ s. s.task.places) c.self.view_is)))
    (sym (c.in_default-get.ensures ∙ ap (λ s. slice_get s.task.variables c.args.variable) c.self.view_is))

pub returns : goal.returns
returns c = λ h.
    let places = c.as_slice-places.ensures ∙ ap (λ s. s.task.places) c.self.view_is in
    let bound = ap (λ s. s.bound) c.self.view_is in
    none_carried c.args.self.now c.args.objects.now c.instances_of-bindings.result.now c.args.variable c.in-Some.object c.in-Some-get.tag_type.now
    (sym (c.in-Some.ensures ∙ ap (λ qs. binder qs c.args.objects.now c.args.variable) places))
    (sym (c.in-Some-get.ensures ∙ ap (λ s. slice_get s.task.variables c.args.variable) c.self.view_is))
    (subst (λ (bs : List Binding). IsOf bs c.in-Some.object c.in-Some-get.tag_type.now c.instances_of-bindings.result.now) bound c.instances_of-bindings.ensures.members)
    (sym
    (c.all_carry_some.ensures
    ∙ ap₂ (λ (bs : List Binding) (qs : List Place). list_any (λ b. all_carry bs qs c.args.objects.now c.args.variable c.in-Some-get.tag_type.now b.instance) c.instances_of-bindings.result.now) bound places)
    ∙ h)

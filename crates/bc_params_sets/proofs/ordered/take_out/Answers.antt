use Rattle.std.proofs.Common.{◌∙◌, ap, subst, List}
use Rattle.bc_params_sets.specs.declared.tag_index.Binding.{Binding}
use Rattle.bc_params_sets.specs.Bindings.{is_bound}
use Rattle.bc_params_sets.proofs.Orders.{bound_out, Found}
use Rattle.bc_params_sets.proofs.ordered.take_out.Goals as goal

pub returns-in-Ok-clause-members : goal.returns-in-Ok-clause-members
returns-in-Ok-clause-members c = λ b.
    let f : Found c.args.items.now.items c.args.binding c.in-Ok.place = subst (λ (l : List Binding). Found l c.args.binding c.in-Ok.place) c.as_slice.ensures.value c.in-Ok.ensures in
    ap (λ (l : List Binding). is_bound l b) c.remove.ensures.items ∙ bound_out c.args.order c.args.items.now.items c.args.binding c.in-Ok.place b c.requires f

use Rattle.std.proofs.Common.{◌≡◌, ◌∙◌, rules, ap, subst, sym, List}
use Rattle.std.specs.List.{insert}
use Rattle.bc_params_sets.specs.declared.tag_index.Binding.{Binding}
use Rattle.bc_params_sets.specs.Bindings.{is_bound}
use Rattle.bc_params_sets.specs.Orders.{InOrder, Fresh}
use Rattle.bc_params_sets.proofs.Orders.{in_order_put, bound_put, bound_there, Found}
use Rattle.bc_params_sets.proofs.ordered.put.Goals as goal

pub returns-in-Err-clause-order : goal.returns-in-Err-clause-order
returns-in-Err-clause-order c =
    let f : Fresh c.args.order c.args.items.now.items c.args.binding c.in-Err.place = subst (λ (l : List Binding). Fresh c.args.order l c.args.binding c.in-Err.place) c.as_slice.ensures.value c.in-Err.ensures in
    let e : c.insert.new.self.items ≡ insert c.args.items.now.items c.in-Err.place c.args.binding = search rules in
    subst (InOrder c.args.order) (sym e) (in_order_put c.args.order c.args.items.now.items c.args.binding c.in-Err.place c.requires.order f)

pub returns-in-Err-clause-members : goal.returns-in-Err-clause-members
returns-in-Err-clause-members c = λ b.
    let e : c.insert.new.self.items ≡ insert c.args.items.now.items c.in-Err.place c.args.binding = search rules in
    ap (λ (l : List Binding). is_bound l b) e ∙ bound_put c.args.items.now.items c.args.binding c.in-Err.place b

pub returns-in_default-clause-members : goal.returns-in_default-clause-members
returns-in_default-clause-members c = λ b.
    let f : Found c.args.items.now.items c.args.binding c.in_default.field-0 = subst (λ (l : List Binding). Found l c.args.binding c.in_default.field-0) c.as_slice.ensures.value c.in_default.ensures in
    bound_there c.args.items.now.items c.args.binding c.in_default.field-0 b f

use Rattle.std.proofs.Common.{arith, sym, ◌∙◌, ap}
use Rattle.std.proofs.lemmas.List.{get_or_default}
use Rattle.bc_params_sets.specs.declared.tag_index.Binding.{Binding}
use Rattle.bc_params_sets.specs.Bindings.{same_binding}
use Rattle.bc_params_sets.proofs.Orders.{fresh, other_by_parts}
use Rattle.bc_params_sets.proofs.ordered.find.Goals as goal

pub returns-then-place-items : goal.returns-then-place-items
returns-then-place-items c = fresh c.args.order c.args.items.now c.args.binding c.place_of-place.result c.requires c.place_of-place.ensures.within c.place_of-place.ensures.point
    (λ d h. absurd (omega arith))

pub returns-else-eq : goal.returns-else-eq
returns-else-eq c = fresh c.args.order c.args.items.now c.args.binding c.place_of-place.result c.requires c.place_of-place.ensures.within c.place_of-place.ensures.point
    (λ d h. ap (λ (b : Binding). same_binding b c.args.binding) (get_or_default c.args.items.now c.place_of-place.result d (record { object = 0; tag_type = 0; instance = 0 }) h)
    ∙ other_by_parts _ c.args.binding (sym c.if-eq.ensures))

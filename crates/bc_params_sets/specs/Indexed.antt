-- The two orders of an index hold the same bindings.
use Rattle.std.specs.Prelude.{◌≡◌, ◌-◌, min, vec_len, vec_capacity}
use Rattle.bc_params_sets.specs.declared.tag_index.Binding.{Binding}
use Rattle.bc_params_sets.specs.declared.tag_index.TagIndex.TheInside.{Inside}
use Rattle.bc_params_sets.specs.declared.ordered.Order.TheVariants as order
use Rattle.bc_params_sets.specs.Bindings.{Bindings, is_bound}
use Rattle.bc_params_sets.specs.Orders.{InOrder}

abbrev pub bindings : Inside → Bindings
bindings t = record {
  bound = t.by_object.items;
  spare = min (vec_capacity t.by_object - vec_len t.by_object) (vec_capacity t.by_instance - vec_len t.by_instance);
}

pub record IsIndex (t : Inside) : Type 0 where
  pub by_object : InOrder order.ByObject t.by_object.items
  pub by_instance : InOrder order.ByInstance t.by_instance.items
  pub same : (c : Binding) → is_bound t.by_object.items c ≡ is_bound t.by_instance.items c

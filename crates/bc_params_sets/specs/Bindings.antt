-- The bindings of instances to objects.
use Rattle.std.specs.Prelude.{ℕ, Bool, ◌&&◌, ◌==◌, List}
use Rattle.std.specs.List.{list_any}
use Rattle.bc_params_sets.specs.declared.tag_index.Binding.{Binding}

-- the bindings, and for how many more there is room
pub record Bindings : Type 0 where
  pub bound : List Binding
  pub spare : ℕ

abbrev pub same_binding : Binding → Binding → Bool
same_binding b c = (b.object == c.object) && (b.tag_type == c.tag_type) && (b.instance == c.instance)

abbrev pub is_bound : List Binding → Binding → Bool
is_bound bs c = list_any (same_binding c) bs

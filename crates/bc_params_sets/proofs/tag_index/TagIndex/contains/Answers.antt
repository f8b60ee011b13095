use Rattle.std.proofs.Common.{◌≡◌, ◌∙◌, ℕ, Result, Ok, Err, List, sym, ap, is_ok}
use Rattle.bc_params_sets.specs.declared.tag_index.Binding.{Binding}
use Rattle.bc_params_sets.specs.declared.ordered.Order.{Order}
use Rattle.bc_params_sets.specs.Bindings.{Bindings, is_bound}
use Rattle.bc_params_sets.specs.Orders.{IsFind}
use Rattle.bc_params_sets.proofs.Orders.{bound_at}
use Rattle.bc_params_sets.proofs.tag_index.TagIndex.contains.Goals as goal

told : (o : Order) (bs : List Binding) (b : Binding) (r : Result ℕ ℕ) → IsFind o bs b r → is_ok r ≡ is_bound bs b
told o bs b (Ok i) f = sym (bound_at bs b i f)
told o bs b (Err i) f = sym f.none

pub returns : goal.returns
returns c = c.is_ok.ensures.value ∙ (told _ c.as_slice.result.now c.args.binding c.find.result c.find.ensures ∙ (ap (λ (l : List Binding). is_bound l c.args.binding) c.as_slice.ensures.value ∙ ap (λ (m : Bindings). is_bound m.bound c.args.binding) c.self.view_is))

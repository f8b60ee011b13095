use Rattle.std.proofs.Common.{◌≡◌, ◌∙◌, ℕ, Result, Ok, Err, List, sym, ap, is_ok}
use Rattle.bc_params_sets.specs.Members.{Members, has, IsSought}
use Rattle.bc_params_sets.proofs.Members.{has_found, has_none}
use Rattle.bc_params_sets.proofs.id_set.IdSet.contains.Goals as goal

told : (xs : List ℕ) (x : ℕ) (r : Result ℕ ℕ) → IsSought xs x r → is_ok r ≡ has xs x
told xs x (Ok i) f = sym (has_found xs x i f)
told xs x (Err i) f = sym (has_none xs x i f)

pub returns : goal.returns
returns c = c.is_ok.ensures.value ∙ (told c.as_slice.result.now c.args.id c.find.result c.find.ensures ∙ (ap (λ (l : List ℕ). has l c.args.id) c.as_slice.ensures.value ∙ ap (λ (m : Members). has m.members c.args.id) c.self.view_is))

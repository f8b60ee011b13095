use Rattle.std.proofs.Common.{◌<◌, ◌∙◌, ℕ, sym, ap, subst, List}
use Rattle.std.proofs.lemmas.List.Quantifiers.{all_pairs_remove}
use Rattle.bc_params_sets.specs.Members.{has, IsRising}
use Rattle.bc_params_sets.proofs.Members.{Found, Missing, has_out, has_gone}
use Rattle.bc_params_sets.proofs.id_set.IdSet.remove.Goals as goal

pub invariant_of-self : goal.invariant_of-self
invariant_of-self c =
    let f : Found c.self.inside.items.items c.args.id c.in-Ok.place = subst (λ (l : List ℕ). Found l c.args.id c.in-Ok.place) c.as_slice.ensures.value c.in-Ok.ensures in
    subst IsRising (sym c.remove.ensures.items) (all_pairs_remove (λ x y. x < y) c.self.inside.items.items c.in-Ok.place f.0 c.self.invariant)

pub returns-in-Ok-clause-members : goal.returns-in-Ok-clause-members
returns-in-Ok-clause-members c = λ x.
    let f : Found c.self.inside.items.items c.args.id c.in-Ok.place = subst (λ (l : List ℕ). Found l c.args.id c.in-Ok.place) c.as_slice.ensures.value c.in-Ok.ensures in
    rw (← c.self.view_is) (ap (λ (l : List ℕ). has l x) c.remove.ensures.items ∙ has_out c.self.inside.items.items c.args.id c.in-Ok.place x c.self.invariant f)

pub returns-in_default-clause-members : goal.returns-in_default-clause-members
returns-in_default-clause-members c = λ x.
    let f : Missing c.self.inside.items.items c.args.id c.in_default.field-0 = subst (λ (l : List ℕ). Missing l c.args.id c.in_default.field-0) c.as_slice.ensures.value c.in_default.ensures in
    rw (← c.self.view_is) (has_gone c.self.inside.items.items c.args.id c.in_default.field-0 x f)

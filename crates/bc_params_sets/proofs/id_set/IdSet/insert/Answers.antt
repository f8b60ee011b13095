use Rattle.std.proofs.Common.{◌≡◌, ◌∙◌, ℕ, rules, sym, ap, subst, List}
use Rattle.std.specs.List.{insert}
use Rattle.bc_params_sets.specs.Members.{has, IsRising}
use Rattle.bc_params_sets.proofs.Members.{Found, Missing, rising_put, has_put, has_there}
use Rattle.bc_params_sets.proofs.id_set.IdSet.insert.Goals as goal

pub invariant_of-self : goal.invariant_of-self
invariant_of-self c =
    let f : Missing c.self.inside.items.items c.args.id c.in-Err.place = subst (λ (l : List ℕ). Missing l c.args.id c.in-Err.place) c.as_slice.ensures.value c.in-Err.ensures in
    let e : c.insert.new.self.items ≡ insert c.self.inside.items.items c.in-Err.place c.args.id = search rules in
    subst IsRising (sym e) (rising_put c.self.inside.items.items c.args.id c.in-Err.place c.self.invariant f)

pub returns-in-Err-clause-members : goal.returns-in-Err-clause-members
returns-in-Err-clause-members c = λ x.
    let e : c.insert.new.self.items ≡ insert c.self.inside.items.items c.in-Err.place c.args.id = search rules in
    rw (← c.self.view_is) (ap (λ (l : List ℕ). has l x) e ∙ has_put c.self.inside.items.items c.args.id c.in-Err.place x)

pub returns-in_default-clause-members : goal.returns-in_default-clause-members
returns-in_default-clause-members c = λ x.
    let f : Found c.self.inside.items.items c.args.id c.in_default.field-0 = subst (λ (l : List ℕ). Found l c.args.id c.in_default.field-0) c.as_slice.ensures.value c.in_default.ensures in
    rw (← c.self.view_is) (has_there c.self.inside.items.items c.args.id c.in_default.field-0 x f)

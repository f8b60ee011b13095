use Rattle.std.proofs.Common.{◌≡◌, ℕ, ◌≤◌, ◌-◌, Bool, true, false, List, [], ◌∷◌, length, get_or, take, drop, Some, sym, ap, ap₂, ◌∙◌, if◌then◌else◌, arith}
use Rattle.std.proofs.lemmas.List.{take_rest}
use Rattle.bc_params_sets.specs.declared.place.Place.{Place}
use Rattle.bc_params_sets.specs.Members.{has}
use Rattle.bc_params_search.specs.Search.{binder}
use Rattle.bc_params_search.proofs.instances.+binder.Goals as goal

binder_here : (qs : List Place) (xs : List ℕ) (b : ℕ) (q : Place) → 1 ≤ length qs → 1 ≤ length xs → q ≡ get_or qs 0 q → has q.binds b ≡ true → Some (get_or xs 0 0) ≡ binder qs xs b
binder_here [] xs b q h k e m = absurd (omega arith)
binder_here (p ∷ qs) [] b q h k e m = absurd (omega arith)
binder_here (p ∷ qs) (x ∷ xs) b q h k e m =
    sym (ap (λ (c : Bool). if c then Some x else binder qs xs b) (ap (λ (r : Place). has r.binds b) (sym e) ∙ m))

binder_later : (qs : List Place) (xs : List ℕ) (b : ℕ) (q : Place) → 1 ≤ length qs → 1 ≤ length xs → q ≡ get_or qs 0 q → has q.binds b ≡ false →
    binder (take (length qs - 1) (drop 1 qs)) (take (length xs - 1) (drop 1 xs)) b ≡ binder qs xs b
binder_later [] xs b q h k e m = absurd (omega arith)
binder_later (p ∷ qs) [] b q h k e m = absurd (omega arith)
binder_later (p ∷ qs) (x ∷ xs) b q h k e m =
    ap₂ (λ (ps : List Place) (ys : List ℕ). binder ps ys b) (take_rest (p ∷ qs) 1) (take_rest (x ∷ xs) 1)
    ∙ sym (ap (λ (c : Bool). if c then Some x else binder qs xs b) (ap (λ (r : Place). has r.binds b) (sym e) ∙ m))

pub returns-then-contains : goal.returns-then-contains
returns-then-contains t c =
    binder_here c.args.places.now c.args.objects.now c.args.variable c.place-item.result c.in-len1-up.len_at_least c.in-len1-up-objects.len_at_least c.place-item.is (sym c.contains.ensures ∙ c.if-contains.true)

pub returns-else-contains : goal.returns-else-contains
returns-else-contains t c =
    c.binder.ensures ∙ binder_later c.args.places.now c.args.objects.now c.args.variable c.place-item.result c.in-len1-up.len_at_least c.in-len1-up-objects.len_at_least c.place-item.is (sym c.contains.ensures ∙ c.if-contains.false)

use Rattle.std.proofs.Common.{ℕ, ◌+◌, List, length, drop, sym, ap, ap₂, ◌∙◌}
use Rattle.std.specs.List.{list_any}
use Rattle.bc_params_sets.specs.declared.place.Place.{Place}
use Rattle.bc_params_sets.specs.Members.{has}
use Rattle.bc_params_sets.specs.Kept.{is_in}
use Rattle.bc_params_search.proofs.Near.{alone_covers, later_places, not_true}
use Rattle.bc_params_search.proofs.search.Search.is_named_next.Goals as goal

pub returns-then-not-contains : goal.returns-then-not-contains
returns-then-not-contains c = λ h.
    let id = ap (λ s. s.id) c.self.view_is in
    alone_covers c.args.self.now c.args.front
    (sym (c.contains.ensures.value ∙ ap₂ (λ (xs : List ℕ) (i : ℕ). has xs i) c.as_slice-2.ensures.value id) ∙ c.if-not-contains.true)
    (sym
    (c.is_in_some.ensures
    ∙ ap (λ (qs : List Place). list_any (λ q. is_in q c.self.inside.id) qs) (later_places c.as_slice.result.now _)
    ∙ ap₂ (λ (qs : List Place) (i : ℕ). list_any (λ q. is_in q c.self.inside.id) (drop (i + 1) qs)) (c.as_slice.ensures ∙ ap (λ s. s.task.places) c.self.view_is) c.len.ensures.value
    ∙ ap (λ (i : ℕ). list_any (λ q. is_in q i) (drop (length c.args.front + 1) c.args.self.now.task.places)) id)
    ∙ not_true c.is_in_some.result h)

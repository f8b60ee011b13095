use Rattle.std.proofs.Common.{List, sym, ap, ap₂, ◌∙◌, ℕ}
use Rattle.std.specs.List.{list_any}
use Rattle.bc_params_sets.specs.declared.place.Place.{Place}
use Rattle.bc_params_sets.specs.Kept.{is_in}
use Rattle.bc_params_search.specs.Search.{has_none}
use Rattle.bc_params_search.proofs.NextTask.{adds_no_task, adds_empty_task}
use Rattle.bc_params_search.proofs.search.Search.add_task.Goals as goal

pub returns-then-not-is_in_some-clause-found : goal.returns-then-not-is_in_some-clause-found
returns-then-not-is_in_some-clause-found c =
    adds_no_task c.args.self.now c.args.found.now c.requires.short
    (sym (ap₂ (λ (id : ℕ) (qs : List Place). list_any (λ q. is_in q id) qs) (ap (λ s. s.id) c.self.view_is) (c.as_slice-places.ensures ∙ ap (λ s. s.task.places) c.self.view_is))
    ∙ sym c.is_in_some.ensures ∙ c.if-not-is_in_some.true)

pub returns-then-is_some_empty-clause-found : goal.returns-then-is_some_empty-clause-found
returns-then-is_some_empty-clause-found c =
    adds_empty_task c.args.self.now c.args.found.now c.requires.short
    (sym (c.is_some_empty.ensures ∙ ap (λ qs. list_any has_none qs) (c.as_slice-places.ensures ∙ ap (λ s. s.task.places) c.self.view_is)) ∙ c.if-is_some_empty.true)

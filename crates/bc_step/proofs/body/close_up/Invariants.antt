use Rattle.std.proofs.Common.{not}
use Rattle.std.proofs.lemmas.List.Filters.{FiltersInPlace}
use Rattle.bc_mean.specs.Values.{same_tag}
use Rattle.bc_step.proofs.body.close_up.Given as goal

abbrev pub invariant-loop-at : goal.invariant-loop-at
invariant-loop-at l = FiltersInPlace (λ s. not (same_tag l.t s)) l.initial.tags l.tags l.kept l.at

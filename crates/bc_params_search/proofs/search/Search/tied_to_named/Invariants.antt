use Rattle.std.proofs.Common.{◌≡◌, ℕ, ◌<◌, true, Some, length}
use Rattle.std.specs.Prelude.{slice_get}
use Rattle.bc_params_sets.specs.declared.place.Place.{Place}
use Rattle.bc_params_sets.specs.Members.{has}
use Rattle.bc_params_sets.specs.Kept.{is_in}
use Rattle.bc_params_search.specs.Tied.{HasTied}
use Rattle.bc_params_search.proofs.search.Search.tied_to_named.Given as goal

-- the object itself, and those that can stand here where it stands at one of the places so far
abbrev pub invariant-loop-at : goal.invariant-loop-at
invariant-loop-at l = record {
  named : has l.chosen.members l.self.id ≡ true;
  tied : (j : ℕ) (q : Place) → length l.fn.front < j → j < l.at → slice_get l.self.task.places j ≡ Some q → is_in q l.self.id ≡ true → HasTied l.self.task l.self.bound l.place q l.self.id l.chosen.members;
}

use Rattle.std.proofs.Common.{◌+◌, ◌≤◌, take}
use Rattle.bc_params.specs.Places.{Front, AtEachPlace, IsUpdated, places_of}
use Rattle.bc_params.proofs.places.update_tasks.Given as goal

-- those so far are updated
abbrev pub invariant-loop-i : goal.invariant-loop-i
invariant-loop-i g l =
    Front (AtEachPlace (IsUpdated l.update)) l.i l.initial.tasks.items l.tasks.items
    × (l.steps ≤ l.initial.steps + places_of l.update.class (take l.i l.initial.tasks.items))

use Rattle.std.proofs.Common.{◌+◌, ◌≤◌, take, count_by}
use Rattle.bc_params.specs.Places.{Front, IsUpdated, is_of}
use Rattle.bc_params.proofs.places.update_places.Given as goal

-- those so far are updated
abbrev pub invariant-loop-i : goal.invariant-loop-i
invariant-loop-i g l =
    Front (IsUpdated l.update) l.i l.initial.places l.places
    × (l.steps ≤ l.initial.steps + count_by (is_of l.update.class) (take l.i l.initial.places))

use Rattle.std.proofs.Common.{ℕ, ◌<◌, ◌≤◌, get_or}
use Rattle.bc_params_sets.specs.declared.place.Place.{Place}
use Rattle.bc_params.specs.Places.{Front, IsRoomier}
use Rattle.bc_params.proofs.room.reserve_places.Given as goal

-- those so far have room
abbrev pub invariant-loop-i : goal.invariant-loop-i
invariant-loop-i l =
    Front IsRoomier l.i l.initial.places l.places
    × ((k : ℕ) (d : Place) → k < l.i → l.n ≤ (get_or l.places k d).objects.spare)

use Rattle.std.proofs.Common.{ℕ, ◌<◌, get_or}
use Rattle.bc_params_sets.specs.declared.place.TaskSets.{TaskSets}
use Rattle.bc_params.specs.Places.{Front, AtEachPlace, IsRoomier, PlacesHaveRoom}
use Rattle.bc_params.proofs.room.reserve_tasks.Given as goal

-- those so far have room
abbrev pub invariant-loop-i : goal.invariant-loop-i
invariant-loop-i l =
    Front (AtEachPlace IsRoomier) l.i l.initial.tasks.items l.tasks.items
    × ((k : ℕ) (d : TaskSets) → k < l.i → PlacesHaveRoom l.n (get_or l.tasks.items k d).places)

use Rattle.bc_law_room.proofs.Room.{room_is_of_sums}
use Rattle.bc_law_room.proofs.room_is_of_sums.Goals as goal

pub returns : goal.returns
returns c = room_is_of_sums

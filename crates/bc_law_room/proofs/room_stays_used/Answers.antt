use Rattle.bc_law_room.proofs.Room.{room_stays_used}
use Rattle.bc_law_room.proofs.room_stays_used.Goals as goal

pub returns : goal.returns
returns c = room_stays_used

use Rattle.bc_law_room.proofs.Room.{failures_stay}
use Rattle.bc_law_room.proofs.failures_stay.Goals as goal

pub returns : goal.returns
returns c = failures_stay

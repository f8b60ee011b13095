use Rattle.bc_law_room.proofs.Growth.{histories_grow}
use Rattle.bc_law_room.proofs.histories_grow.Goals as goal

pub returns : goal.returns
returns c = histories_grow

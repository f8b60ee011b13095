use Rattle.bc_law_room.proofs.Growth.{keeps_kinds}
use Rattle.bc_law_room.proofs.keeps_kinds.Goals as goal

pub returns : goal.returns
returns c = keeps_kinds

use Rattle.bc_law_core.proofs.Areas.{local_ends}
use Rattle.bc_law_core.proofs.local_ends.Goals as goal

pub returns : goal.returns
returns c = local_ends

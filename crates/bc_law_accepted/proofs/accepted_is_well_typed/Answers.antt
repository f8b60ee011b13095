use Rattle.bc_law_accepted.proofs.Accepted.{accepted_is_well_typed}
use Rattle.bc_law_accepted.proofs.accepted_is_well_typed.Goals as goal

pub returns : goal.returns
returns c = accepted_is_well_typed

use Rattle.bc_law_locality.proofs.Runs.{work_grows}
use Rattle.bc_law_locality.proofs.work_grows.Goals as goal

pub returns : goal.returns
returns c = work_grows

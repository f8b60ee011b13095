use Rattle.bc_law_locality.proofs.Runs.{runs_are_local}
use Rattle.bc_law_locality.proofs.runs_are_local.Goals as goal

pub returns : goal.returns
returns c = runs_are_local

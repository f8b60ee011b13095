use Rattle.bc_law_locality.proofs.Runs.{runs_say}
use Rattle.bc_law_locality.proofs.runs_say.Goals as goal

pub returns : goal.returns
returns c = runs_say

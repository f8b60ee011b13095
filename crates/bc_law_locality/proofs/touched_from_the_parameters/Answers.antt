use Rattle.bc_law_locality.proofs.Runs.{touched_from_the_parameters}
use Rattle.bc_law_locality.proofs.touched_from_the_parameters.Goals as goal

pub returns : goal.returns
returns c = touched_from_the_parameters

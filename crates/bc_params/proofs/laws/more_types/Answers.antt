use Rattle.bc_params.proofs.Same.{wider_sets}
use Rattle.bc_params.proofs.laws.more_types.Goals as goal

pub returns : goal.returns
returns c = wider_sets

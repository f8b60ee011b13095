use Rattle.bc_params.proofs.Same.{only_sets}
use Rattle.bc_params.proofs.laws.one_sets.Goals as goal

pub returns : goal.returns
returns c = only_sets

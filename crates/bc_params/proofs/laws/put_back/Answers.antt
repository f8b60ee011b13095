use Rattle.bc_params.proofs.Same.{restored_sets}
use Rattle.bc_params.proofs.laws.put_back.Goals as goal

pub returns : goal.returns
returns c = restored_sets

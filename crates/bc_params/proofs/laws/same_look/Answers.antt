use Rattle.bc_params.proofs.Same.{seen_sets}
use Rattle.bc_params.proofs.laws.same_look.Goals as goal

pub returns : goal.returns
returns c = seen_sets

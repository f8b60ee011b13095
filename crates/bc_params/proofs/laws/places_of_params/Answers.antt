use Rattle.bc_params.proofs.Same.{counted_sets}
use Rattle.bc_params.proofs.laws.places_of_params.Goals as goal

pub returns : goal.returns
returns c = counted_sets

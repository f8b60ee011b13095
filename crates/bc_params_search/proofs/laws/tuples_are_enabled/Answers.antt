use Rattle.bc_params_search.proofs.Sets.{tuples_are_enabled}
use Rattle.bc_params_search.proofs.laws.tuples_are_enabled.Goals as goal

pub returns : goal.returns
returns c = tuples_are_enabled

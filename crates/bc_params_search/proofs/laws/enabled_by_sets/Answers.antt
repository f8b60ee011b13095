use Rattle.bc_params_search.proofs.Sets.{enabled_by_sets}
use Rattle.bc_params_search.proofs.laws.enabled_by_sets.Goals as goal

pub returns : goal.returns
returns c = enabled_by_sets

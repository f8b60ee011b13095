use Rattle.std.proofs.Common.{length}
use Rattle.bc_params_search.proofs.instances.+all_carry.Given as goal

abbrev pub decreases-all_carry : goal.decreases-all_carry
decreases-all_carry l = length l.places.now

use Rattle.std.proofs.Common.{length}
use Rattle.bc_params_search.proofs.instances.+binder.Given as goal

abbrev pub decreases-binder : goal.decreases-binder
decreases-binder l = length l.places.now

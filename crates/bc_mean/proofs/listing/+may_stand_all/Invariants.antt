use Rattle.std.proofs.Common.{length}
use Rattle.bc_mean.proofs.listing.+may_stand_all.Given as goal

abbrev pub decreases-may_stand_all : goal.decreases-may_stand_all
decreases-may_stand_all l = length l.params.now

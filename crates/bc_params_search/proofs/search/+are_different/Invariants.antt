use Rattle.std.proofs.Common.{length}
use Rattle.bc_params_search.proofs.search.+are_different.Given as goal

abbrev pub decreases-are_different : goal.decreases-are_different
decreases-are_different l = length l.ids.now

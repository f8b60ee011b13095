use Rattle.std.proofs.Common.{length}
use Rattle.bc_store_tests.proofs.checked.+ascend.Given as goal

abbrev pub decreases-ascend : goal.decreases-ascend
decreases-ascend l = length l.bodies.now

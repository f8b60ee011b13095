use Rattle.bc_mean.specs.Store.{Fits}
use Rattle.bc_mean_tests.proofs.serial.serial.Given as goal

abbrev pub invariant-loop : goal.invariant-loop
invariant-loop g l = Fits l.program l.course.store

use Rattle.std.proofs.Common.{sym, subst}
use Rattle.bc_machine.specs.Running.{IsRunning}
use Rattle.bc_machine.proofs.Gives.{spare_runs}
use Rattle.bc_machine.proofs.machine.Machine.reserve_given.Goals as goal

pub returns-clause-running : goal.returns-clause-running
returns-clause-running c = λ P S code r.
    spare_runs P S code (record { state = c.self.inside.state; area = c.self.inside.area }) c.reserve_given.new.self c.reserve_given.ensures.same
    (subst (IsRunning P S code) (sym c.self.view_is) r)

use Rattle.std.proofs.Common.{sym, subst}
use Rattle.bc_machine.specs.Parts.{MachineParts}
use Rattle.bc_machine.specs.Running.{IsRunning, Needs}
use Rattle.bc_machine.proofs.Gives.{given_runs}
use Rattle.bc_machine.proofs.machine.Machine.give.Goals as goal

pub returns-clause-running : goal.returns-clause-running
returns-clause-running c = λ P S code r need.
    given_runs P S code (record { state = c.self.inside.state; area = c.self.inside.area }) c.args.id c.args.body c.give.new.self c.give.ensures.given
    (subst (IsRunning P S code) (sym c.self.view_is) r)
    (subst (λ (m : MachineParts). Needs P m.area c.args.id) (sym c.self.view_is) need)

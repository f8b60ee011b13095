use Rattle.std.proofs.Common.{sym, subst}
use Rattle.std.proofs.lemmas.Result.{IfOk-weaker}
use Rattle.bc_machine.specs.Running.{IsRunning}
use Rattle.bc_machine.proofs.Ends.{can_run, still_runs, tells}
use Rattle.bc_machine.proofs.machine.Machine.go.Goals as goal

pub run_on-requires : goal.run_on-requires
run_on-requires c =
    can_run c.requires.0 c.requires.1 c.args.code.now (record { state = c.self.inside.state; area = c.self.inside.area })
    (subst (IsRunning c.requires.0 c.requires.1 c.args.code.now) (sym c.self.view_is) c.requires.2)

pub returns-clause-tells : goal.returns-clause-tells
returns-clause-tells c =
    IfOk-weaker c.run_on.result _ _ (λ going halts P S r.
    tells P S c.args.code.now (record { state = c.self.inside.state; area = c.self.inside.area })
    (subst (IsRunning P S c.args.code.now) (sym c.self.view_is) r) c.run_on.new.state c.run_on.new.area c.run_on.ensures.kept going halts)
    c.run_on.ensures.ok

pub returns-clause-running : goal.returns-clause-running
returns-clause-running c = λ P S r.
    still_runs P S c.args.code.now (record { state = c.self.inside.state; area = c.self.inside.area })
    (subst (IsRunning P S c.args.code.now) (sym c.self.view_is) r) c.run_on.new.state c.run_on.new.area c.run_on.ensures.kept c.run_on.result c.run_on.ensures.ok c.run_on.ensures.err

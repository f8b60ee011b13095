use Rattle.std.proofs.lemmas.Result.{on_ok_weaker}
use Rattle.bc_machine.proofs.Gives.{as_many, can_begin, fresh_given, start_runs}
use Rattle.bc_machine.proofs.machine.Machine.restart.Goals as goal

pub restart-requires : goal.restart-requires
restart-requires c = can_begin c.requires.0 c.requires.1 c.args.code.now c.args.v c.requires.2

pub restart-requires-2-clause-each : goal.restart-requires-2-clause-each
restart-requires-2-clause-each c = as_many c.requires.1 c.args.v.objects c.args.bodies c.requires.3

pub returns-clause-running : goal.returns-clause-running
returns-clause-running c =
    on_ok_weaker c.restart-2.result
    (λ fresh P S. start_runs P S c.args.code.now c.args.bodies c.restart.new.self c.restart-2.new.self c.args.v fresh c.in_ok-restart.ensures)
    c.restart-2.ensures.ok

pub returns-clause-given : goal.returns-clause-given
returns-clause-given c =
    on_ok_weaker c.restart-2.result
    (fresh_given c.args.v c.args.bodies c.restart-2.new.self (as_many c.requires.1 c.args.v.objects c.args.bodies c.requires.3))
    c.restart-2.ensures.ok

use Rattle.bc_book_events.proofs.SameRun.{machine_keeps_run}
use Rattle.bc_book_events.proofs.laws.machine_keeps_run.Goals as goal

pub returns : goal.returns
returns c = machine_keeps_run

use Rattle.bc_serial.proofs.Telling.{workers_tell}
use Rattle.bc_serial.proofs.laws.workers_tell.Goals as goal

pub returns : goal.returns
returns c = workers_tell

use Rattle.bc_law_serial.proofs.Ending.{serial_runs_end}
use Rattle.bc_law_serial.proofs.serial_runs_end.Goals as goal

pub returns : goal.returns
returns c = serial_runs_end

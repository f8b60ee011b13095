use Rattle.bc_serial.proofs.Telling.{runs_from_start}
use Rattle.bc_serial.proofs.laws.runs_from_start.Goals as goal

pub returns : goal.returns
returns c = runs_from_start

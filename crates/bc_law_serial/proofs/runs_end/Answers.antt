use Rattle.bc_law_serial.proofs.Ending.{runs_end}
use Rattle.bc_law_serial.proofs.runs_end.Goals as goal

pub returns : goal.returns
returns c = runs_end

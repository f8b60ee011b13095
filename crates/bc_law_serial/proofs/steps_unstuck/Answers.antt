use Rattle.bc_law_serial.proofs.Unstuck.{steps_unstuck}
use Rattle.bc_law_serial.proofs.steps_unstuck.Goals as goal

pub returns : goal.returns
returns c = steps_unstuck

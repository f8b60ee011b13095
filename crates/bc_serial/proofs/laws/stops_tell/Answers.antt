use Rattle.bc_serial.proofs.Telling.{stops_tell}
use Rattle.bc_serial.proofs.laws.stops_tell.Goals as goal

pub returns : goal.returns
returns c = stops_tell

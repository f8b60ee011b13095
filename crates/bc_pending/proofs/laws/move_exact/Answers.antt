use Rattle.bc_pending.proofs.Left.{move_exact}
use Rattle.bc_pending.proofs.laws.move_exact.Goals as goal

pub returns : goal.returns
returns c = move_exact

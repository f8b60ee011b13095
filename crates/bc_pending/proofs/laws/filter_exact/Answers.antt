use Rattle.bc_pending.proofs.Left.{filter_exact}
use Rattle.bc_pending.proofs.laws.filter_exact.Goals as goal

pub returns : goal.returns
returns c = filter_exact

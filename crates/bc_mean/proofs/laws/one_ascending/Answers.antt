use Rattle.bc_mean.proofs.Orders.{one_ascending}
use Rattle.bc_mean.proofs.laws.one_ascending.Goals as goal

pub returns : goal.returns
returns c = one_ascending

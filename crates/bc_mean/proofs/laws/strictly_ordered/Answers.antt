use Rattle.bc_mean.proofs.Orders.{strictly_ordered}
use Rattle.bc_mean.proofs.laws.strictly_ordered.Goals as goal

pub returns : goal.returns
returns c = strictly_ordered

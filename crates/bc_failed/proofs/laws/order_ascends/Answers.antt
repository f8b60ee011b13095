use Rattle.bc_failed.proofs.Ordered.{order_ascends}
use Rattle.bc_failed.proofs.laws.order_ascends.Goals as goal

pub returns : goal.returns
returns c = order_ascends

use Rattle.bc_failed.proofs.Ordered.{order_exact}
use Rattle.bc_failed.proofs.laws.order_exact.Goals as goal

pub returns : goal.returns
returns c = order_exact

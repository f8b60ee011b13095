use Rattle.bc_failed.proofs.Ordered.{filter_exact}
use Rattle.bc_failed.proofs.laws.filter_exact.Goals as goal

pub returns : goal.returns
returns c = filter_exact

use Rattle.bc_pending.proofs.Left.{filter_once}
use Rattle.bc_pending.proofs.laws.filter_once.Goals as goal

pub returns : goal.returns
returns c = filter_once

use Rattle.bc_failed.proofs.Ordered.{filter_once}
use Rattle.bc_failed.proofs.laws.filter_once.Goals as goal

pub returns : goal.returns
returns c = filter_once

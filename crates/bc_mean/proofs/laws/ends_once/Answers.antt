use Rattle.bc_mean.proofs.Course.{ends_once}
use Rattle.bc_mean.proofs.laws.ends_once.Goals as goal

pub returns : goal.returns
returns c = ends_once

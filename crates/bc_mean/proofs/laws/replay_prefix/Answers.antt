use Rattle.bc_mean.proofs.Course.{replay_prefix}
use Rattle.bc_mean.proofs.laws.replay_prefix.Goals as goal

pub returns : goal.returns
returns c = replay_prefix

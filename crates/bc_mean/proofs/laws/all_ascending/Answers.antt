use Rattle.bc_mean.proofs.Enabled.{all_ascending}
use Rattle.bc_mean.proofs.laws.all_ascending.Goals as goal

pub returns : goal.returns
returns c = all_ascending

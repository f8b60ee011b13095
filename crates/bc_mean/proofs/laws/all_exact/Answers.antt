use Rattle.bc_mean.proofs.Enabled.{all_exact}
use Rattle.bc_mean.proofs.laws.all_exact.Goals as goal

pub returns : goal.returns
returns c = all_exact

use Rattle.bc_mean.proofs.Enabled.{named_alone}
use Rattle.bc_mean.proofs.laws.named_alone.Goals as goal

pub returns : goal.returns
returns c = named_alone

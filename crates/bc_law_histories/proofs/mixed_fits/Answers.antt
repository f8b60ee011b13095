use Rattle.bc_law_histories.proofs.Mixing.{mixed_fits}
use Rattle.bc_law_histories.proofs.mixed_fits.Goals as goal

pub returns : goal.returns
returns c = mixed_fits

use Rattle.bc_law_histories.proofs.Starting.{start_fits}
use Rattle.bc_law_histories.proofs.start_fits.Goals as goal

pub returns : goal.returns
returns c = start_fits

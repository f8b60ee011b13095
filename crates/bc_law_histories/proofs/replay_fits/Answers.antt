use Rattle.bc_law_histories.proofs.Replaying.{replay_fits}
use Rattle.bc_law_histories.proofs.replay_fits.Goals as goal

pub returns : goal.returns
returns c = replay_fits

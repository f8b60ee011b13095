use Rattle.bc_mean.proofs.Sound.{keeps_sound}
use Rattle.bc_mean.proofs.laws.keeps_sound.Goals as goal

pub returns : goal.returns
returns c = keeps_sound

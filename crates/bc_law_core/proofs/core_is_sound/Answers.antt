use Rattle.bc_law_core.proofs.Sound.{core_is_sound}
use Rattle.bc_law_core.proofs.core_is_sound.Goals as goal

pub returns : goal.returns
returns c = core_is_sound

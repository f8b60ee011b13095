use Rattle.bc_law_core.proofs.Areas.{areas_keep_sound}
use Rattle.bc_law_core.proofs.areas_keep_sound.Goals as goal

pub returns : goal.returns
returns c = areas_keep_sound

use Rattle.bc_book_events.proofs.CoreSteps.{keeps_sound_core}
use Rattle.bc_book_events.proofs.laws.keeps_sound_core.Goals as goal

pub returns : goal.returns
returns c = keeps_sound_core

use Rattle.bc_law_translation.proofs.Whole.{one_translation}
use Rattle.bc_law_translation.proofs.one_translation.Goals as goal

pub returns : goal.returns
returns c = one_translation

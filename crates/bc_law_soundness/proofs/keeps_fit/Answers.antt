use Rattle.bc_law_soundness.proofs.Keeping.{keeps_fit}
use Rattle.bc_law_soundness.proofs.keeps_fit.Goals as goal

pub returns : goal.returns
returns c = keeps_fit

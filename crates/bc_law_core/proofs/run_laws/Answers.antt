use Rattle.bc_law_core.proofs.Sound.{run_laws}
use Rattle.bc_law_core.proofs.run_laws.Goals as goal

pub returns : goal.returns
returns c = run_laws

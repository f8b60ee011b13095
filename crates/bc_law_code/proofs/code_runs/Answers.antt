use Rattle.bc_law_code.proofs.Whole.{code_runs}
use Rattle.bc_law_code.proofs.code_runs.Goals as goal

pub returns : goal.returns
returns c = code_runs

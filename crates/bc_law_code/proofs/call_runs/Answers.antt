use Rattle.bc_law_code.proofs.OneExpression.{one_call_runs}
use Rattle.bc_law_code.proofs.call_runs.Goals as goal

pub returns : goal.returns
returns c = one_call_runs

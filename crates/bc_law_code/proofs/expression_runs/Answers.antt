use Rattle.bc_law_code.proofs.OneExpression.{one_expression_runs}
use Rattle.bc_law_code.proofs.expression_runs.Goals as goal

pub returns : goal.returns
returns c = one_expression_runs

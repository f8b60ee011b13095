use Rattle.bc_law_code.proofs.MoreBodies.{code_over_more}
use Rattle.bc_law_code.proofs.code_over_more.Goals as goal

pub returns : goal.returns
returns c = code_over_more

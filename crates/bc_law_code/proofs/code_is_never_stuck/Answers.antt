use Rattle.bc_law_code.proofs.Whole.{code_is_never_stuck}
use Rattle.bc_law_code.proofs.code_is_never_stuck.Goals as goal

pub returns : goal.returns
returns c = code_is_never_stuck

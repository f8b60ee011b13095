use Rattle.bc_lex.proofs.Exists.{tokens_or_fault}
use Rattle.bc_lex.proofs.laws.tokens_or_fault.Goals as goal

pub returns : goal.returns
returns c = tokens_or_fault

use Rattle.bc_lex.proofs.Order.{tokens_within}
use Rattle.bc_lex.proofs.laws.tokens_within.Goals as goal

pub returns : goal.returns
returns c = tokens_within

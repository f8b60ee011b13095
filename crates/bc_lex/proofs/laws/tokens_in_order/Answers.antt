use Rattle.bc_lex.proofs.Order.{in_order}
use Rattle.bc_lex.proofs.laws.tokens_in_order.Goals as goal

pub returns : goal.returns
returns c = in_order

use Rattle.bc_law_code.proofs.Asked.{asked_in_order}
use Rattle.bc_law_code.proofs.asked_in_order.Goals as goal

pub returns : goal.returns
returns c = asked_in_order

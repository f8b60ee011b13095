use Rattle.bc_print.proofs.Literals.{same_meaning}
use Rattle.bc_print.proofs.laws.literals_are_read.Goals as goal

pub returns : goal.returns
returns c = same_meaning

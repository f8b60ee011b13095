use Rattle.std.proofs.Common.{◌∷◌}
use Rattle.bc_step.proofs.stack.drop_three.Goals as goal

pub returns : goal.returns
returns c = λ x y z rest e. c.drop_top.ensures x rest (c.drop_two.ensures y z (x ∷ rest) e)

use Rattle.std.proofs.Common.{◌∷◌}
use Rattle.bc_step.proofs.stack.drop_two.Goals as goal

pub returns : goal.returns
returns c = λ x y rest e. c.drop_top-2.ensures x rest (c.drop_top.ensures y (x ∷ rest) e)

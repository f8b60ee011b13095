use Rattle.std.proofs.Common.{◌∷◌}
use Rattle.bc_step.proofs.stack.replace_two.Goals as goal

pub returns : goal.returns
returns c = λ x y rest e. c.set_top.ensures x rest (c.drop_top.ensures y (x ∷ rest) e)

use Rattle.bc_flags.proofs.Masks.{all_joined}
use Rattle.bc_flags.proofs.guard.both.Goals as goal

pub returns-in-All-All-clause-truth : goal.returns-in-All-All-clause-truth
returns-in-All-All-clause-truth c mask = rw (c.in-All-All.is-0, c.in-All-All.is-1) (all_joined _ _ _ _ mask)

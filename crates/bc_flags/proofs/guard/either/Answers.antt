use Rattle.bc_flags.proofs.Masks.{any_joined}
use Rattle.bc_flags.proofs.guard.either.Goals as goal

pub returns-in-Any-Any-clause-truth : goal.returns-in-Any-Any-clause-truth
returns-in-Any-Any-clause-truth c mask = rw (c.in-Any-Any.is-0, c.in-Any-Any.is-1) (any_joined _ _ _ _ mask)

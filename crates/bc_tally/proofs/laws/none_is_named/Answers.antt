use Rattle.bc_tally.proofs.Counted.{none_is_named}
use Rattle.bc_tally.proofs.laws.none_is_named.Goals as goal

pub returns : goal.returns
returns c = none_is_named

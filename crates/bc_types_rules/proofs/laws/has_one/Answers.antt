use Rattle.bc_types_rules.proofs.Expressions.{one}
use Rattle.bc_types_rules.proofs.laws.has_one.Goals as goal

pub returns : goal.returns
returns c = one

use Rattle.bc_types_rules.proofs.Statements.{one_statement}
use Rattle.bc_types_rules.proofs.laws.does_one.Goals as goal

pub returns : goal.returns
returns c = one_statement

use Rattle.bc_types_rules.proofs.Programs.{one_program}
use Rattle.bc_types_rules.proofs.laws.one_program.Goals as goal

pub returns : goal.returns
returns c = one_program

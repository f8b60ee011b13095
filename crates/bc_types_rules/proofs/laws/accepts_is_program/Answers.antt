use Rattle.bc_types_rules.proofs.Programs.{program_back, program_on}
use Rattle.bc_types_rules.proofs.laws.accepts_is_program.Goals as goal

pub returns : goal.returns
returns c = λ items p. (program_back items p, program_on items p)

use Rattle.bc_types_rules.proofs.Programs.{program_or_fault}
use Rattle.bc_types_rules.proofs.laws.program_or_fault.Goals as goal

pub returns : goal.returns
returns c = program_or_fault

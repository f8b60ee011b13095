use Rattle.bc_types_rules.proofs.Numbered.{numbering_fails}
use Rattle.bc_types_rules.proofs.numbering.names_fail_as_twice_or_too_many.Goals as goal

pub returns : goal.returns
returns c = numbering_fails

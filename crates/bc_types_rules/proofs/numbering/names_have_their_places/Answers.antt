use Rattle.bc_types_rules.proofs.Numbered.{numbering_gives}
use Rattle.bc_types_rules.proofs.numbering.names_have_their_places.Goals as goal

pub returns : goal.returns
returns c = numbering_gives

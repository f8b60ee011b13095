-- The parts of a tree that is read from a text stand apart, and its tokens can be spelled.
use Rattle.bc_law_readback.specs.Steps.{PartsAreApart}
use Rattle.bc_data.specs.Seen.{seen}
use Rattle.bc_law_readback.proofs.PartedApart.{program_apart}
use Rattle.bc_law_readback.proofs.PartedSpelled.{program_spellable}
use Rattle.bc_law_readback.proofs.PartedTokens.{tokens_known}

pub parts_are_apart : PartsAreApart
parts_are_apart n items source tokens h k = (program_apart items, program_spellable items (seen source tokens) _ k.2 (tokens_known source tokens h))

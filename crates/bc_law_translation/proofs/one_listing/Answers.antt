use Rattle.bc_law_translation.proofs.Listings.{one_listing}
use Rattle.bc_law_translation.proofs.one_listing.Goals as goal

pub returns : goal.returns
returns c = one_listing

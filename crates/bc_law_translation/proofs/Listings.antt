-- The listing of a program's code is one, since its code is.
use Rattle.std.proofs.Common.{ap}
use Rattle.bc_code.specs.Listing.{listing_text}
use Rattle.bc_law_translation.specs.Laws.{OneListing}
use Rattle.bc_law_translation.proofs.Whole.{one_translation}

pub one_listing : OneListing
one_listing P c d tc td = ap (listing_text P) (one_translation P c d tc td)

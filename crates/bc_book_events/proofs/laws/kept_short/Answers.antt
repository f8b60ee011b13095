use Rattle.bc_book_events.proofs.Appended.{kept_short}
use Rattle.bc_book_events.proofs.laws.kept_short.Goals as goal

pub returns : goal.returns
returns c = kept_short

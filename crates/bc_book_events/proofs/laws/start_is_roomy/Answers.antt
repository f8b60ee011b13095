use Rattle.bc_book_events.proofs.Start.{start_is_roomy}
use Rattle.bc_book_events.proofs.laws.start_is_roomy.Goals as goal

pub returns : goal.returns
returns c = start_is_roomy

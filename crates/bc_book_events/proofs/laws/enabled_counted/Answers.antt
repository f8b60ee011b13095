use Rattle.bc_book_events.proofs.Counted.{enabled_counted}
use Rattle.bc_book_events.proofs.laws.enabled_counted.Goals as goal

pub returns : goal.returns
returns c = enabled_counted

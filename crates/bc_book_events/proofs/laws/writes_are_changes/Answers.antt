use Rattle.bc_book_events.proofs.Written.{writes_are_changes}
use Rattle.bc_book_events.proofs.laws.writes_are_changes.Goals as goal

pub returns : goal.returns
returns c = writes_are_changes

use Rattle.bc_book_events.proofs.Appended.{changes_move}
use Rattle.bc_book_events.proofs.laws.changes_move.Goals as goal

pub returns : goal.returns
returns c = changes_move

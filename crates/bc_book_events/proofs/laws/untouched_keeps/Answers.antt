use Rattle.bc_book_events.proofs.Kept.{untouched_keeps}
use Rattle.bc_book_events.proofs.laws.untouched_keeps.Goals as goal

pub returns : goal.returns
returns c = untouched_keeps

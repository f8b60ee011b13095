use Rattle.bc_book_events.proofs.Sound.{ends_quiet}
use Rattle.bc_book_events.proofs.laws.ends_quiet.Goals as goal

pub returns : goal.returns
returns c = ends_quiet

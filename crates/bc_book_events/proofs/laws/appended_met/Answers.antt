use Rattle.bc_book_events.proofs.Appended.{appended_met}
use Rattle.bc_book_events.proofs.laws.appended_met.Goals as goal

pub returns : goal.returns
returns c = appended_met

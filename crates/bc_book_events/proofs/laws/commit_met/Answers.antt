use Rattle.bc_book_events.proofs.CommitFound.{commit_met}
use Rattle.bc_book_events.proofs.laws.commit_met.Goals as goal

pub returns : goal.returns
returns c = commit_met

use Rattle.bc_book_events.proofs.SameRun.{events_keep_run}
use Rattle.bc_book_events.proofs.laws.events_keep_run.Goals as goal

pub returns : goal.returns
returns c = events_keep_run

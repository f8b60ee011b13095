use Rattle.bc_book_events.proofs.SameRun.{same_run_composes}
use Rattle.bc_book_events.proofs.laws.same_run_composes.Goals as goal

pub returns : goal.returns
returns c = same_run_composes

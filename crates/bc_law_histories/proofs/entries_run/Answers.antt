use Rattle.bc_law_histories.proofs.Replaying.{entries_run}
use Rattle.bc_law_histories.proofs.entries_run.Goals as goal

pub returns : goal.returns
returns c = entries_run

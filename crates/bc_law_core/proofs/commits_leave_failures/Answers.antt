use Rattle.bc_law_core.proofs.Sound.{commits_leave_failures}
use Rattle.bc_law_core.proofs.commits_leave_failures.Goals as goal

pub returns : goal.returns
returns c = commits_leave_failures

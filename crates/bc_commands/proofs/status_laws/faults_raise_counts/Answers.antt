use Rattle.bc_commands.proofs.Statuses.{faults_raise_counts}
use Rattle.bc_commands.proofs.status_laws.faults_raise_counts.Goals as goal

pub returns : goal.returns
returns c = faults_raise_counts

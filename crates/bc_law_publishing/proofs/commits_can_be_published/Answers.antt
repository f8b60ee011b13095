use Rattle.bc_law_publishing.proofs.Published.{commits_can_be_published}
use Rattle.bc_law_publishing.proofs.commits_can_be_published.Goals as goal

pub returns : goal.returns
returns c = commits_can_be_published

use Rattle.bc_law_locality.proofs.Runs.{changes_are_touched}
use Rattle.bc_law_locality.proofs.changes_are_touched.Goals as goal

pub returns : goal.returns
returns c = changes_are_touched

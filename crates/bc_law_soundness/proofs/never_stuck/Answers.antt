use Rattle.bc_law_soundness.proofs.Stuck.{never_stuck}
use Rattle.bc_law_soundness.proofs.never_stuck.Goals as goal

pub returns : goal.returns
returns c = never_stuck

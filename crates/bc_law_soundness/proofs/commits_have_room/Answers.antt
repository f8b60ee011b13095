use Rattle.bc_law_soundness.proofs.Room.{commits_have_room}
use Rattle.bc_law_soundness.proofs.commits_have_room.Goals as goal

pub returns : goal.returns
returns c = commits_have_room

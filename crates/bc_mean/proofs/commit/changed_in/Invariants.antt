use Rattle.std.proofs.Common.{◌≡◌, map, take}
use Rattle.bc_mean.specs.Commit.{written_in}
use Rattle.bc_mean.proofs.commit.changed_in.Given as goal

-- those so far
abbrev pub invariant-loop-written : goal.invariant-loop-written
invariant-loop-written l = l.bodies ≡ map (written_in l.store) (take l.written-index l.changes.bodies)

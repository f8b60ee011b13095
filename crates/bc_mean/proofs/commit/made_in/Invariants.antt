use Rattle.std.proofs.Common.{◌≡◌, map, take}
use Rattle.bc_mean.specs.Changes.{body_in}
use Rattle.bc_mean.proofs.commit.made_in.Given as goal

-- those so far
abbrev pub invariant-loop-body : goal.invariant-loop-body
invariant-loop-body l = l.bodies ≡ map (body_in l.store) (take l.body-index l.changes.made)

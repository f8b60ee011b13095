use Rattle.std.proofs.Common.{◌≡◌}
use Rattle.bc_mean.specs.Commit.{placed}
use Rattle.bc_mean.proofs.commit.place.Given as goal

-- those so far are in their places
abbrev pub invariant-loop-written : goal.invariant-loop-written
invariant-loop-written l =
    (goal.iterator-loop-written).can_next l.written-iterator ×
    (goal.iterator-loop-written).is_finite l.written-iterator × (l.bodies ≡ placed l.yielded l.initial.bodies)

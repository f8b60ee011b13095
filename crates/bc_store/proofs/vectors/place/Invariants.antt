use Rattle.std.proofs.Common.{◌≡◌, vec_len, vec_capacity}
use Rattle.bc_mean.specs.Commit.{placed}
use Rattle.bc_store.proofs.vectors.place.Given as goal

-- those so far are in their places
abbrev pub invariant-loop-written : goal.invariant-loop-written
invariant-loop-written l =
    (goal.iterator-loop-written).can_next l.written-iterator ×
    (goal.iterator-loop-written).is_finite l.written-iterator × (l.bodies.items ≡ placed l.yielded l.initial.bodies.items) ×
    (vec_len l.bodies ≡ vec_len l.initial.bodies) × (vec_capacity l.bodies ≡ vec_capacity l.initial.bodies)

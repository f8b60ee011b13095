use Rattle.std.proofs.Common.{◌+◌, ap, arith, length}
use Rattle.bc_step.specs.Held.{HeldParts}
use Rattle.bc_step.proofs.Holds.{held_long}
use Rattle.bc_step.proofs.held.Holdings.clear.Goals as goal

pub returns-clause-room : goal.returns-clause-room
returns-clause-room c =
    let all = ap (λ (h : HeldParts). length h.held + h.spare) c.self.view_is in
    let long = held_long c.self.inside.ids.keys c.self.inside.given.items c.self.invariant.0 in
    omega (arith, all, long, c.self.invariant.0, c.clear.ensures.capacity, c.clear-2.ensures.capacity, c.clear-2.ensures.len, c.self.inside.given.ok.0)

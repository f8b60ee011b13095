use Rattle.std.proofs.Common.{ap, ap₂, sym, ◌∙◌, ◌+◌, arith, length}
use Rattle.std.proofs.lemmas.List.{length-map}
use Rattle.bc_step.specs.Held.{HeldParts, held_of, unwritten}
use Rattle.bc_step.proofs.Holds.{held_at_first, held_long}
use Rattle.bc_step.proofs.held.Holdings.refill.Goals as goal

pub returns-in-Ok-clause-ok : goal.returns-in-Ok-clause-ok
returns-in-Ok-clause-ok c = ap₂ held_of c.in-Ok.ensures.ids c.in-Ok.ensures.given ∙ held_at_first c.args.objects.now c.args.bodies

pub returns-in-Ok-clause-room : goal.returns-in-Ok-clause-room
returns-in-Ok-clause-room c =
    let all = ap (λ (h : HeldParts). length h.held + h.spare) c.self.view_is in
    let before = held_long c.self.inside.ids.keys c.self.inside.given.items c.self.invariant.0 in
    let ids = ap length c.in-Ok.ensures.ids in
    let given = ap length c.in-Ok.ensures.given ∙ length-map c.args.bodies unwritten in
    let after = held_long c.fill.new.ids.keys c.fill.new.given.items (ids ∙ sym c.requires.each ∙ sym given) in
    omega (arith, all, before, after, ids, given, c.requires.each, c.self.invariant.0, c.in-Ok.ensures.room, c.in-Ok.ensures.capacity, c.self.inside.given.ok.0, c.fill.new.given.ok.0)

pub returns-in-Err-clause-room : goal.returns-in-Err-clause-room
returns-in-Err-clause-room c =
    let all = ap (λ (h : HeldParts). length h.held + h.spare) c.self.view_is in
    let before = held_long c.self.inside.ids.keys c.self.inside.given.items c.self.invariant.0 in
    omega (arith, all, before, c.self.invariant.0, c.in-Err.ensures.room, c.in-Err.ensures.capacity, c.clear.ensures.capacity, c.clear-in-Err.ensures.capacity, c.clear-in-Err.ensures.len, c.self.inside.given.ok.0)

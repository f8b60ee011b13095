use Rattle.std.proofs.Common.{◌∙◌, ap}
use Rattle.bc_step.specs.Held.{HeldParts, is_given}
use Rattle.bc_step.proofs.Holds.{has_held}
use Rattle.bc_step.proofs.held.Holdings.has.Goals as goal

pub returns : goal.returns
returns c =
    c.contains.ensures ∙ has_held c.args.id c.self.inside.ids.keys c.self.inside.given.items c.self.invariant.0
    ∙ ap (λ (h : HeldParts). is_given c.args.id h.held) c.self.view_is

use Rattle.std.proofs.Common.{◌∙◌, ap, sym}
use Rattle.bc_code.specs.Given.{ids_of}
use Rattle.bc_step.specs.Area.{given_of}
use Rattle.bc_step.specs.Held.{HeldParts}
use Rattle.bc_step.proofs.Holds.{ids_held}
use Rattle.bc_step.proofs.held.Holdings.ids.Goals as goal

pub returns : goal.returns
returns c =
    c.as_slice.ensures.keys ∙ sym (ids_held c.self.inside.ids.keys c.self.inside.given.items c.self.invariant.0)
    ∙ ap (λ (h : HeldParts). ids_of (given_of h.held)) c.self.view_is

use Rattle.std.proofs.Common.{◌≡◌, ◌∙◌, ap, sym, Some, None}
use Rattle.std.specs.Prelude.{option_map}
use Rattle.bc_step.specs.declared.held.Given.{Given}
use Rattle.bc_step.specs.Held.{HeldParts, held_body, latest, look_in}
use Rattle.bc_step.proofs.Holds.{body_held}
use Rattle.bc_step.proofs.held.Holdings.body.Goals as goal

pub returns-in_err-one : goal.returns-in_err-one
returns-in_err-one c =
    let ids = c.self.inside.ids.keys in
    let gs = c.self.inside.given.items in
    let absent : look_in ids gs c.args.id ≡ None = sym c.look_in.ensures ∙ ap (option_map (λ g. g.now)) c.in_err-one.was in
    ap (option_map (λ b. b.now)) c.from_residual.ensures
    ∙ ap (option_map (λ (g : Given). latest g.copy g.body)) (sym absent)
    ∙ sym (body_held c.args.id ids gs c.self.invariant.1)
    ∙ ap (λ (h : HeldParts). held_body h.held c.args.id) c.self.view_is

pub returns : goal.returns
returns c =
    let ids = c.self.inside.ids.keys in
    let gs = c.self.inside.given.items in
    let there : look_in ids gs c.args.id ≡ Some c.in_ok-one.one.now = sym c.look_in.ensures ∙ ap (option_map (λ g. g.now)) c.in_ok-one.was in
    ap Some c.latest.ensures
    ∙ ap (option_map (λ (g : Given). latest g.copy g.body)) (sym there)
    ∙ sym (body_held c.args.id ids gs c.self.invariant.1)
    ∙ ap (λ (h : HeldParts). held_body h.held c.args.id) c.self.view_is

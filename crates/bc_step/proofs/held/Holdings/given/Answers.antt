use Rattle.std.proofs.Common.{◌≡◌, ◌∙◌, ap, sym, Some, None}
use Rattle.std.specs.Prelude.{option_map}
use Rattle.bc_code.specs.Given.{given_look}
use Rattle.bc_step.specs.Area.{given_of}
use Rattle.bc_step.specs.declared.held.Given.{Given}
use Rattle.bc_step.specs.Held.{HeldParts, look_in}
use Rattle.bc_step.proofs.Holds.{given_held}
use Rattle.bc_step.proofs.held.Holdings.given.Goals as goal

pub returns-in_err-one : goal.returns-in_err-one
returns-in_err-one c =
    let ids = c.self.inside.ids.keys in
    let gs = c.self.inside.given.items in
    let absent : look_in ids gs c.args.id ≡ None = sym c.look_in.ensures ∙ ap (option_map (λ g. g.now)) c.in_err-one.was in
    ap (option_map (λ b. b.now)) c.from_residual.ensures
    ∙ ap (option_map (λ (g : Given). g.body)) (sym absent)
    ∙ sym (given_held c.args.id ids gs)
    ∙ ap (λ (h : HeldParts). given_look (given_of h.held) c.args.id) c.self.view_is

pub returns : goal.returns
returns c =
    let ids = c.self.inside.ids.keys in
    let gs = c.self.inside.given.items in
    let there : look_in ids gs c.args.id ≡ Some c.in_ok-one.one.now = sym c.look_in.ensures ∙ ap (option_map (λ g. g.now)) c.in_ok-one.was in
    ap (option_map (λ (g : Given). g.body)) (sym there)
    ∙ sym (given_held c.args.id ids gs)
    ∙ ap (λ (h : HeldParts). given_look (given_of h.held) c.args.id) c.self.view_is

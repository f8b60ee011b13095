use Rattle.std.proofs.Common.{◌∙◌, ap, sym, is_some}
use Rattle.std.specs.Prelude.{option_map}
use Rattle.bc_step.proofs.Lookups.{found, not_found}
use Rattle.bc_step.proofs.held.look_in.Goals as goal

pub returns-in_err-i : goal.returns-in_err-i
returns-in_err-i c =
    ap (option_map (λ g. g.now)) c.from_residual.ensures
    ∙ sym (not_found c.args.id c.args.ids.now.keys c.args.given.now.items (sym c.get_index_of.ensures.found ∙ ap is_some c.in_err-i.was))

pub returns : goal.returns
returns c =
    sym (found c.args.id c.args.ids.now.keys c.args.given.now.items c.in_ok-i.i c.index.result.now c.requires (sym c.get_index_of.ensures.index ∙ c.in_ok-i.was) c.index.ensures)

use Rattle.std.proofs.Common.{◌∙◌, ap, sym, is_some}
use Rattle.bc_step.specs.Area.{edited}
use Rattle.bc_step.proofs.Lookups.{none_there, not_found, on_ok, written_here}
use Rattle.bc_step.proofs.held.edit_in.Goals as goal

pub unreachable-requires : goal.unreachable-requires
unreachable-requires c =
    none_there c.requires.there.0 (sym (not_found c.args.id c.args.ids.now.keys c.args.given.now.items (sym c.get_index_of.ensures.found ∙ ap is_some c.in-None.is)) ∙ c.requires.there.1)

pub returns-clause-ok : goal.returns-clause-ok
returns-clause-ok c = on_ok c.edit.result _ _ c.edit.ensures.ok
    (λ new g e. written_here c.args.id c.args.ids.now.keys c.args.given.now.items c.in-Some.i c.index_mut.result.now g c.edit.new.self (edited c.args.edit) c.requires.len (sym c.get_index_of.ensures.index ∙ c.in-Some.is) c.index_mut.ensures.value e new)

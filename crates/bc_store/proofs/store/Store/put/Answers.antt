use Rattle.std.proofs.Common.{◌++◌, List, sym, ap, subst, ◌∙◌}
use Rattle.bc_data.specs.declared.run.Body.{Body}
use Rattle.bc_store.specs.Store.{StoreParts, CanPublish}
use Rattle.bc_store.proofs.Kept.{plain, sum_put, limits_of}
use Rattle.bc_store.proofs.store.Store.put.Goals as goal

pub invariant_of-self : goal.invariant_of-self
invariant_of-self c =
    let S = plain c.self.inside.bodies.items c.self.inside.tags.items c.self.inside.output.items in
    let publish : CanPublish S c.args.changes = subst (λ (s : StoreParts). CanPublish s.plain c.args.changes) (sym c.self.view_is) c.requires.publish in
    let bodies = c.append_in.ensures.items ∙ ap (λ (bs : List Body). bs ++ c.args.changes.made) c.place.ensures.items in (
      sum_put S c.args.changes c.self.inside.cells c.cells_of.result c.as_slice.result.now c.append_in.new.items.items publish c.self.invariant.0 c.cells_of.ensures c.as_slice.ensures bodies,
      limits_of S c.args.changes c.append_in.new.items.items c.append_in-2.new.items.items c.append_in-3.new.items.items publish bodies c.append_in-2.ensures.items c.append_in-3.ensures.items,
    )

use Rattle.std.proofs.Common.{◌≡◌, sym, subst, ap₂, List}
use Rattle.bc_data.specs.declared.run.Body.{Body}
use Rattle.bc_data.specs.declared.run.Written.{Written}
use Rattle.bc_data.specs.declared.run.Changes.{Changes}
use Rattle.bc_mean.specs.Changes.{apply_changes}
use Rattle.bc_store.specs.Resolved.{IsResolved}
use Rattle.bc_store.specs.Store.{CanPublish}
use Rattle.bc_store.proofs.Resolved.{body_numbers, resolved_same, resolved_still, resolved_old}
use Rattle.bc_store.proofs.store.Store.resolve.Goals as goal

pub resolve_changed-requires : goal.resolve_changed-requires
resolve_changed-requires c = λ k d within. body_numbers c.args.self.now.plain c.args.changes.now _ c.requires.there (c.requires.there.changed k d within)

pub resolve_made-requires : goal.resolve_made-requires
resolve_made-requires c = λ k d within. body_numbers c.args.self.now.plain c.args.changes.now _ c.requires.there (c.requires.there.made k d within)

abbrev changed : Changes → List Written → List Body → Changes
changed c bodies made = record { bodies = bodies; made = made; tags = c.tags; text = c.text }

pub returns-clause-same : goal.returns-clause-same
returns-clause-same c =
    let new = ap₂ (changed c.args.changes.now) c.resolve_changed.ensures c.resolve_made.ensures in
    subst (λ (d : Changes). apply_changes c.args.self.now.plain d ≡ apply_changes c.args.self.now.plain c.args.changes.now) (sym new) (resolved_same c.args.self.now.plain c.args.changes.now)

pub returns-clause-still : goal.returns-clause-still
returns-clause-still c =
    let new = ap₂ (changed c.args.changes.now) c.resolve_changed.ensures c.resolve_made.ensures in
    subst (CanPublish c.args.self.now.plain) (sym new) (resolved_still c.args.self.now.plain c.args.changes.now c.requires)

pub returns-clause-none_new : goal.returns-clause-none_new
returns-clause-none_new c =
    let new = ap₂ (changed c.args.changes.now) c.resolve_changed.ensures c.resolve_made.ensures in
    subst IsResolved (sym new) (resolved_old c.args.self.now.plain c.args.changes.now)

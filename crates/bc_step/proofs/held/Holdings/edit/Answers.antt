use Rattle.std.proofs.Common.{ℕ, ap, ap₂, ◌∙◌, ◌-◌}
use Rattle.std.specs.Prelude.{min}
use Rattle.indexmap.specs.IndexSet.{spare}
use Rattle.bc_data.specs.declared.run.Body.{Body}
use Rattle.bc_step.specs.Area.{edited}
use Rattle.bc_step.specs.Held.{write_in}
use Rattle.bc_step.proofs.Holds.{found_held, holds_now}
use Rattle.bc_step.proofs.Lookups.{on_ok}
use Rattle.bc_step.proofs.held.Holdings.edit.Goals as goal

pub edit_in-requires-clause-there : goal.edit_in-requires-clause-there
edit_in-requires-clause-there c =
    let f = found_held c.self.inside.ids.keys c.self.inside.given.items c.args.id _ c.args.self.now c.requires.there.0 c.self.invariant.1 c.self.view_is c.requires.there.1 in
    (f.given, f.is)

pub returns-clause-ok : goal.returns-clause-ok
returns-clause-ok c = on_ok c.edit_in.result _ _ c.edit_in.ensures.ok (λ written b e.
    let f = found_held c.self.inside.ids.keys c.self.inside.given.items c.args.id _ c.args.self.now b c.self.invariant.1 c.self.view_is e in
    holds_now c.self.inside.ids.keys c.self.inside.given.items c.edit_in.new.given.items c.args.id _ _ f.given (edited c.args.edit b) c.args.self.now c.self.invariant.1 f.is (written f.given f.is ∙ ap (λ (x : Body). write_in c.self.inside.ids.keys c.self.inside.given.items c.args.id (edited c.args.edit x)) f.body)
    (ap₂ (λ (n : ℕ) (m : ℕ). min (spare c.self.inside.ids) (n - m)) c.edit_in.ensures.capacity c.edit_in.ensures.len)
    c.self.view_is)

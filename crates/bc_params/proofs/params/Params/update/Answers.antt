use Rattle.std.proofs.Common.{◌<◌, ◌^◌, ◌&&◌, ◌||◌, not, ◌++◌, List, sym, ap, ◌∙◌, subst, option_copied}
use Rattle.std.specs.Prelude.{IfSome}
use Rattle.bc_data.specs.declared.run.TagRef.{TagRef}
use Rattle.bc_params_sets.specs.Bindings.{is_bound}
use Rattle.bc_params_sets.specs.Kept.{AreSets}
use Rattle.bc_params.specs.declared.places.Update.{Update}
use Rattle.bc_params.specs.Look.{is_own}
use Rattle.bc_params.specs.Places.{ParamParts, Each, AtEachPlace, IsUpdated, update_of, flags_of}
use Rattle.bc_params.proofs.Updated.{updated_sets, updated_room, updated_rise}
use Rattle.bc_params.proofs.Searchable.{updated_searchable}
use Rattle.bc_params.proofs.params.Params.update.Goals as goal

pub returns-clause-sets : goal.returns-clause-sets
returns-clause-sets g c = λ P look there kinds sets.
    let before = option_copied c.args.before in
    let after = option_copied c.args.after in
    let types = c.args.types.now ++ c.args.made.now in
    let each : Each (AtEachPlace (IsUpdated (update_of c.args.id before after))) c.self.inside.tasks.items c.update_tasks.new.tasks.items =
    subst (λ (u : Update). Each (AtEachPlace (IsUpdated u)) c.self.inside.tasks.items c.update_tasks.new.tasks.items) c.update_of-update.ensures.value c.update_tasks.ensures.updated in
    let small : IfSome (flags_of after) (λ flags. flags < 2 ^ 32) = subst (λ (u : Update). IfSome u.flags (λ flags. flags < 2 ^ 32)) c.update_of-update.ensures.value c.update_of-update.ensures.fits in
    updated_sets P types c.args.id before after look (record { tasks = c.self.inside.tasks.items; bound = c.self.inside.tags.bound }) c.update_tasks.new.tasks.items c.unbind.new.index.bound c.bind.new.index.bound
    there kinds small (subst (λ (s : ParamParts). AreSets P look types s.kept) (sym c.self.view_is) sets) each
    (λ b. c.unbind.ensures.bound b ∙ ap (λ (ts : List TagRef). is_bound c.self.inside.tags.bound b && not (is_own types c.args.id ts b)) c.tags_in.ensures)
    (λ b. c.bind.ensures.bound b ∙ ap (λ (ts : List TagRef). is_bound c.unbind.new.index.bound b || is_own types c.args.id ts b) c.tags_in-2.ensures)

pub invariant_of-self : goal.invariant_of-self
invariant_of-self g c = (
  updated_room c.self.inside.room c.update_of-update.result c.self.inside.tasks.items c.update_tasks.new.tasks.items c.update_tasks.ensures.updated c.self.invariant.0,
  updated_rise c.update_of-update.result c.self.inside.tasks.items c.update_tasks.new.tasks.items c.update_tasks.ensures.updated c.self.invariant.1,
  updated_searchable c.update_of-update.result c.self.inside.tasks.items c.update_tasks.new.tasks.items c.update_tasks.ensures.updated c.self.invariant.2,
)

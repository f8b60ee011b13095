use Rattle.std.proofs.Common.{List, ap₂, ◌∙◌}
use Rattle.bc_params_sets.specs.declared.tag_index.Binding.{Binding}
use Rattle.bc_params_sets.specs.declared.place.TaskSets.{TaskSets}
use Rattle.bc_params_sets.specs.Kept.{is_enabled_by}
use Rattle.bc_params.proofs.params.Params.is_enabled.Goals as goal

pub returns : goal.returns
returns c P S are binds =
    c.is_enabled_by.ensures
    ∙ ap₂ (λ (ts : List TaskSets) (bs : List Binding). is_enabled_by (record { tasks = ts; bound = bs }) c.args.v) c.tasks.ensures.value c.tags.ensures
    ∙ c.enabled_by_sets.ensures P S c.args.self.now.kept binds are c.args.v

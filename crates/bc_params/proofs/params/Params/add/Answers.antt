use Rattle.std.proofs.Common.{◌≡◌, ◌++◌, [], ℕ, List, Option, Some, append-nil, ◌∙◌, sym, subst}
use Rattle.bc_data.specs.declared.run.Body.{Body}
use Rattle.bc_params_sets.specs.Kept.{AreSets}
use Rattle.bc_params.specs.Look.{put_look}
use Rattle.bc_params.proofs.params.Params.add.Goals as goal

pub returns : goal.returns
returns g c = λ P look there sets.
    let types : c.tags.result.now ++ [] ≡ c.args.store.now.plain.tags = append-nil c.tags.result.now ∙ c.tags.ensures in
    let before : AreSets P look (c.tags.result.now ++ []) c.reserve.new.self.kept = subst (λ (ts : List ℕ). AreSets P look ts c.reserve.new.self.kept) (sym types)
    (c.in_ok-reserve.ensures.kept P look c.args.store.now.plain.tags sets) in
    let after : AreSets P (put_look c.args.id (Some c.body-body.result.now) look) (c.tags.result.now ++ []) c.update.new.self.kept = c.update.ensures.sets P look there tt before in
    subst (λ (o : Option Body). AreSets P (put_look c.args.id o look) c.args.store.now.plain.tags c.update.new.self.kept) c.body-body.ensures
    (subst (λ (ts : List ℕ). AreSets P (put_look c.args.id (Some c.body-body.result.now) look) ts c.update.new.self.kept) types after)

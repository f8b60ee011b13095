use Rattle.std.proofs.Common.{sym, ◌∙◌}
use Rattle.bc_params_search.proofs.NextObject.{none_free}
use Rattle.bc_params_search.proofs.search.Search.may_stand.Goals as goal

pub returns-then-not-is_free : goal.returns-then-not-is_free
returns-then-not-is_free c = λ _.
    none_free c.args.self.now c.args.front c.args.place.now c.args.object c.requires.place (sym c.is_free.ensures ∙ c.if-not-is_free.true)

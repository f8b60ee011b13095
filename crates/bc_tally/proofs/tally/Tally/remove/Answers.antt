use Rattle.std.proofs.Common.{◌++◌, ◌∙◌, arith}
use Rattle.bc_tally.proofs.Counted.{between, tells_of, tells_same, times, written}
use Rattle.bc_tally.proofs.tally.Tally.remove.Goals as goal

pub returns : goal.returns
returns c before after h =
    written _ c.lower_all.new.counts _ _ (omega arith) (c.lower_all.ensures (λ id. times id (before ++ after)) (tells_same c.as_mut_slice.result.now _ _ (tells_of _ _ _ (c.as_mut_slice.ensures.value ∙ c.self.view_is) h) (λ id. between id before c.args.ids.now after)))

use Rattle.std.proofs.Common.{◌++◌, sym, ◌∙◌, arith}
use Rattle.bc_tally.proofs.Counted.{between, tells_of, tells_same, times, written}
use Rattle.bc_tally.proofs.tally.Tally.add.Goals as goal

pub returns : goal.returns
returns c before after h =
    written _ c.raise_all.new.counts _ _ (omega arith) (tells_same c.raise_all.new.counts _ _ (c.raise_all.ensures (λ id. times id (before ++ after)) (tells_of _ _ _ (c.as_mut_slice.ensures.value ∙ c.self.view_is) h)) (λ id. sym (between id before c.args.ids.now after)))

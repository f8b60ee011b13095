use Rattle.std.proofs.Common.{w32, neg_ℤ, ap, ◌∙◌}
use Rattle.std.specs.Int.{int_wrapping_neg}
use Rattle.std.proofs.lemmas.Int.{to_z-of_z, wrapping_neg_is}
use Rattle.bc_mean_run.proofs.Quotients.{kept}
use Rattle.bc_mean_run.proofs.values.negative.Goals as goal

pub returns : goal.returns
returns c =
    let a = c.args.a in
    kept c.wrapping_neg.result (neg_ℤ a) (c.wrapping_neg.ensures ∙ ap (int_wrapping_neg w32) (to_z-of_z w32 a c.ranges.a) ∙ wrapping_neg_is w32 a c.ranges.a)

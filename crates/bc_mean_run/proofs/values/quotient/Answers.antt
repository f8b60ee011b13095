use Rattle.std.proofs.Common.{w32, ap₂, ◌∙◌}
use Rattle.std.specs.Prelude.{int_div}
use Rattle.std.specs.Int.{int_wrapping_div}
use Rattle.std.proofs.lemmas.Int.{to_z-of_z}
use Rattle.bc_mean_run.proofs.Quotients.{kept, quotient_wraps}
use Rattle.bc_mean_run.proofs.values.quotient.Goals as goal

pub returns : goal.returns
returns c =
    let a = c.args.a in
    let b = c.args.b in
    kept c.wrapping_div.result (int_div a b) (c.wrapping_div.ensures ∙ ap₂ (int_wrapping_div w32) (to_z-of_z w32 a c.ranges.a) (to_z-of_z w32 b c.ranges.b) ∙ quotient_wraps a b c.ranges.a)

use Rattle.std.proofs.Common.{◌-◌, ◌++◌, ◌∙◌, ap, length, rules}
use Rattle.std.specs.Prelude.{replicate}
use Rattle.bc_mean_run.proofs.Padding.{pad_more}
use Rattle.bc_mean_run.proofs.frame.pad_values.Goals as goal

pub loop-value-preserved : goal.loop-value-preserved
loop-value-preserved c = ap (λ l. l ++ replicate (c.args.len - length l) c.args.value) c.in_ok-push.ensures.ok ∙ pad_more c.loop-value.list c.args.len c.args.value (search rules) ∙ c.loop-value.invariant

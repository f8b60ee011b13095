use Rattle.std.proofs.Common.{◌-◌, ◌++◌, ◌∙◌, ap, length, rules}
use Rattle.std.specs.Prelude.{replicate}
use Rattle.bc_mean_run.proofs.Padding.{pad_more}
use Rattle.bc_mean_run.proofs.frame.pad_tags.Goals as goal

pub loop-tag-preserved : goal.loop-tag-preserved
loop-tag-preserved c = ap (λ l. l ++ replicate (c.args.len - length l) c.args.tag) c.in_ok-push.ensures.ok ∙ pad_more c.loop-tag.list c.args.len c.args.tag (search rules) ∙ c.loop-tag.invariant

use Rattle.std.proofs.Common.{◌≡◌, ◌-◌, ◌++◌, length, replicate}
use Rattle.bc_mean_run.proofs.frame.pad_tags.Given as goal

abbrev pub invariant-loop-tag : goal.invariant-loop-tag
invariant-loop-tag l =
    l.list ++ replicate (l.len - length l.list) l.tag ≡ l.initial.list ++ replicate (l.len - length l.initial.list) l.tag

abbrev pub decreases-loop-tag : goal.decreases-loop-tag
decreases-loop-tag l = l.len - length l.list

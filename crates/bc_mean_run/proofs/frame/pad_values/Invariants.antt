use Rattle.std.proofs.Common.{◌≡◌, ◌-◌, ◌++◌, length, replicate}
use Rattle.bc_mean_run.proofs.frame.pad_values.Given as goal

abbrev pub invariant-loop-value : goal.invariant-loop-value
invariant-loop-value l =
    l.list ++ replicate (l.len - length l.list) l.value ≡ l.initial.list ++ replicate (l.len - length l.initial.list) l.value

abbrev pub decreases-loop-value : goal.decreases-loop-value
decreases-loop-value l = l.len - length l.list

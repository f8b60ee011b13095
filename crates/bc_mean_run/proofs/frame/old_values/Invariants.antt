use Rattle.std.proofs.Common.{◌≡◌, map, take}
use Rattle.bc_data.specs.declared.run.Value.TheVariants as value
use Rattle.bc_mean_run.proofs.frame.old_values.Given as goal

abbrev pub invariant-loop-id : goal.invariant-loop-id
invariant-loop-id l = l.list ≡ map value.Old (take l.id-index l.ids)

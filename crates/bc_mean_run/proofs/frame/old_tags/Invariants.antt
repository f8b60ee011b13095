use Rattle.std.proofs.Common.{◌≡◌, map, take}
use Rattle.bc_data.specs.declared.run.TagRef.TheVariants as tag
use Rattle.bc_mean_run.proofs.frame.old_tags.Given as goal

abbrev pub invariant-loop-id : goal.invariant-loop-id
invariant-loop-id l = l.list ≡ map tag.Old (take l.id-index l.ids)

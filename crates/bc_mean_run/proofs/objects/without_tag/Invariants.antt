use Rattle.std.proofs.Common.{◌≡◌, not, take}
use Rattle.std.specs.Prelude.{filter}
use Rattle.bc_mean.specs.Values.{same_tag}
use Rattle.bc_mean_run.proofs.objects.without_tag.Given as goal

abbrev pub invariant-loop-s : goal.invariant-loop-s
invariant-loop-s l = l.kept ≡ filter (λ s. not (same_tag l.t s)) (take l.s-index l.tags)

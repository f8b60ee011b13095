use Rattle.std.proofs.Common.{◌≡◌}
use Rattle.std.specs.Prelude.{slice_get}
use Rattle.std.specs.List.{filter_map, range_with_len}
use Rattle.bc_mean.specs.Changes.{written_of}
use Rattle.bc_mean_run.proofs.outcome.all_written.Given as goal

abbrev pub invariant-loop-body : goal.invariant-loop-body
invariant-loop-body l = (l.id ≡ l.body-index) × (l.all ≡ filter_map (λ id. written_of l.run id (slice_get l.bodies id)) (range_with_len 0 l.id))

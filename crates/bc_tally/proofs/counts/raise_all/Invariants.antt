use Rattle.std.proofs.Common.{ℕ, ◌+◌, take, count_by}
use Rattle.std.specs.Prelude.{◌==◌}
use Rattle.bc_tally.specs.Counts.{Tells}
use Rattle.bc_tally.proofs.counts.raise_all.Given as goal

abbrev pub invariant-loop-id : goal.invariant-loop-id
invariant-loop-id l = (f : ℕ → ℕ) → Tells l.initial.counts f → Tells l.counts (λ id. f id + count_by (λ other. other == id) (take l.id-index l.ids))

use Rattle.std.proofs.Common.{◌≡◌, map, take}
use Rattle.bc_data.specs.declared.program.Field.{Field}
use Rattle.bc_mean.specs.Values.{zero_of}
use Rattle.bc_mean_run.proofs.making.zero_cells.Given as goal

abbrev pub invariant-loop-x : goal.invariant-loop-x
invariant-loop-x l = l.cells ≡ map (λ (x : Field). zero_of x.shape) (take l.x-index l.fields)

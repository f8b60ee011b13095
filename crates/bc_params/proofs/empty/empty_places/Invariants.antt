use Rattle.std.proofs.Common.{take}
use Rattle.bc_params_sets.specs.Kept.{ArePlaces}
use Rattle.bc_params.specs.Look.{nobody}
use Rattle.bc_params.proofs.empty.empty_places.Given as goal

abbrev pub invariant-loop-param : goal.invariant-loop-param
invariant-loop-param l = ArePlaces nobody (take l.param-index l.params) l.places

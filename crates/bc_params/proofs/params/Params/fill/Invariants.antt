use Rattle.bc_data.specs.Typed.{TypedProgram}
use Rattle.bc_mean.specs.Work.{look_of}
use Rattle.bc_params_sets.specs.Kept.{AreSets}
use Rattle.bc_params.specs.Look.{nobody, look_below}
use Rattle.bc_params.proofs.params.Params.fill.Given as goal

-- the objects below this one are in
abbrev pub invariant-loop-id : goal.invariant-loop-id
invariant-loop-id g l = (P : TypedProgram) → AreSets P nobody l.store.plain.tags l.initial.self.kept → AreSets P (look_below l.id (look_of l.store.plain)) l.store.plain.tags l.self.kept

use Rattle.std.proofs.Common.{take}
use Rattle.bc_machine.specs.Running.{AreBodiesOf}
use Rattle.bc_machine.proofs.plain.bodies_of.Given as goal

abbrev pub invariant-loop-id : goal.invariant-loop-id
invariant-loop-id l = AreBodiesOf l.store (take l.id-index l.ids) l.bodies

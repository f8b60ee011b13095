-- What a machine is after its area was lent.
use Rattle.std.specs.Borrow.{Lends, MutBor, Fml}
use Rattle.bc_step.specs.Area.{AreaParts}
use Rattle.bc_step.specs.contracts.area.Area as area
use Rattle.bc_machine.specs.Parts.{MachineParts}
use Rattle.bc_machine.specs.contracts.machine.Machine as machine

abbrev pub with_area : MachineParts → AreaParts → MachineParts
with_area m a = record { state = m.state; area = a }

-- the machine ends with the last area behind r
abbrev pub LendsArea : MutBor MachineParts → MutBor AreaParts → Fml
LendsArea m r = Lends machine.the_row area.the_row m r (with_area m.now)

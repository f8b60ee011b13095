-- What contracts see of a machine.
use Rattle.bc_step.specs.declared.state.State.{State}
use Rattle.bc_step.specs.Area.{AreaParts}

-- its state, and what it was given and has done
pub record MachineParts : Type 0 where
  pub state : State
  pub area : AreaParts

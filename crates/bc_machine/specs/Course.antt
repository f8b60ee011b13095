-- The course of a run of the code from some moment on.
use Rattle.std.specs.Prelude.{◌≡◌, ◌<◌, ◌+◌, ℕ, List, None, Some}
use Rattle.bc_data.specs.declared.run.Written.{Written}
use Rattle.bc_mean.specs.Work.{Work, Got, Gives, Stops, Faulted, Missing}
use Rattle.bc_code.specs.declared.code.Code.{Code}
use Rattle.bc_code.specs.Instructions.{Reads, Did, On, Over, more, start}
use Rattle.bc_step.specs.declared.area.End.TheVariants as end
use Rattle.bc_step.specs.declared.state.State.{State}
use Rattle.bc_step.specs.Area.{AreaParts, AreCopies, reads_of, work_with}
use Rattle.bc_step.specs.State.{HasRule, state_with}
use Rattle.bc_step.specs.Stepping.{IsGenerated}
use Rattle.bc_machine.specs.declared.machine.Ended.TheVariants as ended
use Rattle.bc_machine.specs.declared.machine.Going.{Going}
use Rattle.bc_machine.specs.declared.machine.Going.TheVariants as going

-- So many instructions lead to this state and area, which has no end yet.
pub record Reaches (R : Reads) (code : Code) (from : Did) (n : ℕ) (s : State) (a : AreaParts) : Type 0 where
  pub copies : List Written
  pub touched : List ℕ
  pub are : AreCopies copies a.held
  pub is : more R code n from ≡ On (state_with s a copies touched)
  pub going_on : a.end ≡ None

-- some number of instructions does
abbrev pub Comes : Reads → Code → Did → State → AreaParts → Type 0
Comes R code from s a = (n : ℕ) × Reaches R code from n s a

-- the run is over after so many instructions
pub record IsOver (R : Reads) (code : Code) (from : Did) (n : ℕ) : Type 0 where
  pub end : Got (Unit {0})
  pub is : more R code n from ≡ Over end

-- The code is generated, and has brought the area's invocation from its start to this state and area. At each moment
-- of the run there is an instruction, and it is over before a number of 64 bits has counted them.
pub record CanRun (code : Code) (s : State) (a : AreaParts) : Type 0 where
  pub generated : IsGenerated code
  pub steps : ℕ
  pub here : Reaches (reads_of a) code (start code a.invocation) steps s a
  pub rules : (n : ℕ) → HasRule (more (reads_of a) code n (start code a.invocation))
  pub last : ℕ
  pub over : IsOver (reads_of a) code (start code a.invocation) last
  pub bound : last < 18446744073709551615

-- The next instruction needs this object.
pub record Lacks (R : Reads) (code : Code) (from : Did) (id n : ℕ) : Type 0 where
  pub work : Work
  pub is : more R code (n + 1) from ≡ Over (Stops (Missing id) work)

-- The run exits after what the area has.
pub record Leaves (R : Reads) (code : Code) (from : Did) (s : State) (a : AreaParts) : Type 0 where
  pub steps : ℕ
  pub copies : List Written
  pub touched : List ℕ
  pub are : AreCopies copies a.held
  pub is : more R code steps from ≡ Over (Gives tt (work_with a s.turns copies touched))
  pub end : a.end ≡ Some end.Exit

-- what stops a run
abbrev pub Halts : Reads → Code → Did → Going → State → AreaParts → Type 0
Halts R code from (going.Need id) s a = (n : ℕ) × Reaches R code from n s a × Lacks R code from id n
Halts R code from (going.Finished ended.Commit) s a = Leaves R code from s a
Halts R code from (going.Finished (ended.Faulted f)) s a =
    (n : ℕ) × (w : Work) × (more R code n from ≡ Over (Stops (Faulted f) w)) × (a.end ≡ Some (end.Fault f))

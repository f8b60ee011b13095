-- What a machine's answers say.
use Rattle.std.specs.Prelude.{◌≡◌, ℕ, List, [], ◌∷◌, ◌++◌, map, Some, None, Result, Ok, Err, slice_get}
use Rattle.std.specs.declared.alloc.AllocError.{AllocError}
use Rattle.bc_data.specs.Typed.{TypedProgram}
use Rattle.bc_data.specs.WellTyped.{IsWellTyped}
use Rattle.bc_data.specs.declared.run.Body.{Body}
use Rattle.bc_data.specs.declared.run.Fault.{Fault}
use Rattle.bc_data.specs.declared.run.Invocation.{Invocation}
use Rattle.bc_data.specs.declared.run.Ran.TheVariants as ran
use Rattle.bc_data.specs.declared.run.Written.{Written}
use Rattle.bc_mean.specs.declared.plain.Plain.{Plain}
use Rattle.bc_mean.specs.Changes.{changes_between}
use Rattle.bc_mean.specs.Enabled.{IsEnabled}
use Rattle.bc_mean.specs.Outcome.{body_outcome}
use Rattle.bc_mean.specs.Store.{Fits}
use Rattle.bc_mean.specs.Work.{Work, Stops, Missing}
use Rattle.bc_code.specs.declared.code.Code.{Code}
use Rattle.bc_code.specs.Given.{given_look, ids_of}
use Rattle.bc_code.specs.Instructions.{On, more, start}
use Rattle.bc_code.specs.Runs.{run_over}
use Rattle.bc_code.specs.Translation.{Translates}
use Rattle.bc_law_code.specs.Laws.{Asked}
use Rattle.bc_step.specs.declared.area.End.TheVariants as end
use Rattle.bc_step.specs.Area.{AreaParts, AgreesWith, AreCopies, copies_of, given_of, reads_of, work_with}
use Rattle.bc_step.specs.State.{state_with}
use Rattle.bc_machine.specs.declared.machine.Machine.{Machine}
use Rattle.bc_machine.specs.declared.machine.Going.{Going}
use Rattle.bc_machine.specs.declared.machine.Going.TheVariants as going
use Rattle.bc_machine.specs.declared.machine.Ended.TheVariants as ended

-- The code is that of a well-typed program, and the invocation is enabled in a store that fits it.
pub record IsRunOf (P : TypedProgram) (S : Plain) (code : Code) (v : Invocation) : Type 0 where
  pub well_typed : IsWellTyped P
  pub translated : Translates P code
  pub fits : Fits P S
  pub enabled : IsEnabled P S v

-- the bodies of these objects in a store, in order
abbrev pub AreBodiesOf : Plain → List ℕ → List Body → Type 0
AreBodiesOf S ids bodies = map (slice_get S.bodies) ids ≡ map (λ (b : Body). Some b) bodies

-- The machine is on its way: the code came from the start to its state, over bodies that the store has, and the run
-- has not ended; and those were given that the run asked for, in its order.
pub record IsRunning (P : TypedProgram) (S : Plain) (code : Code) (m : Machine) : Type 0 where
  pub run : IsRunOf P S code m.area.invocation
  pub agrees : AgreesWith S (given_of m.area.held)
  pub others : List ℕ
  pub first : ids_of (given_of m.area.held) ≡ m.area.invocation.objects ++ others
  pub copies : List Written
  pub are : AreCopies copies m.area.held
  pub touched : List ℕ
  pub steps : ℕ
  pub reached :
      more (reads_of m.area) code steps (start code m.area.invocation) ≡ On (state_with m.state m.area copies touched)
  pub going_on : m.area.end ≡ None
  pub asked :
      Asked (given_of m.area.held) (run_over P (given_look (given_of m.area.held)) m.area.invocation)

-- some program and store, of which this is a run
abbrev pub CanGo : Code → Machine → Type 0
CanGo code m = (P : TypedProgram) × (S : Plain) × IsRunning P S code m

abbrev pub CanStart : Code → Invocation → List Body → Type 0
CanStart code v bodies = (P : TypedProgram) × (S : Plain) × IsRunOf P S code v × AreBodiesOf S v.objects bodies

-- The run over the bodies given stops for this object.
abbrev pub Needs : TypedProgram → AreaParts → ℕ → Type 0
Needs P a id =
    (w : Work) × (run_over P (given_look (given_of a.held)) a.invocation ≡ Stops (Missing id) w)

-- in every store that has the bodies given
abbrev pub InEach : AreaParts → (Plain → Type 0) → Type 0
InEach a T = (S : Plain) → AgreesWith S (given_of a.held) → T S

-- what the area changes in a store
abbrev pub work_of : AreaParts → Work
work_of a = work_with a 0 (copies_of a.held) []

-- The area is its invocation's run at its exit: its changes and its touched objects are that run's, in every store
-- that has the bodies given.
pub record IsAtExit (P : TypedProgram) (a : AreaParts) : Type 0 where
  pub end : a.end ≡ Some end.Exit
  pub run :
      InEach a (λ S.
      body_outcome P S a.invocation
      ≡ record { ran = ran.Commit (changes_between S (work_of a)); touched = ids_of (given_of a.held) })

-- The area is its invocation's run at this fault.
pub record IsAtFault (P : TypedProgram) (a : AreaParts) (f : Fault) : Type 0 where
  pub end : a.end ≡ Some (end.Fault f)
  pub run :
      InEach a (λ S. body_outcome P S a.invocation ≡ record { ran = ran.Faulted f; touched = ids_of (given_of a.held) })

-- The next object that the run touches, behind those given, is this one, in every store that has the bodies given.
pub record IsInNeed (P : TypedProgram) (a : AreaParts) (id : ℕ) : Type 0 where
  pub needs : Needs P a id
  pub new : given_look (given_of a.held) id ≡ None
  pub next :
      InEach a (λ S.
      (rest : List ℕ) × ((body_outcome P S a.invocation).touched ≡ ids_of (given_of a.held) ++ id ∷ rest))

-- what an answer of `go` says
abbrev pub Tells : TypedProgram → AreaParts → Going → Type 0
Tells P a (going.Need id) = IsInNeed P a id
Tells P a (going.Finished ended.Commit) = IsAtExit P a
Tells P a (going.Finished (ended.Faulted f)) = IsAtFault P a f

-- A run goes on after a need and after want of memory.
abbrev pub runs_on : Result Going AllocError → Type 0 → Type 0
runs_on (Ok (going.Need id)) T = T
runs_on (Ok (going.Finished e)) T = Unit {0}
runs_on (Err e) T = T

-- What an invocation comes to in a store.
use Rattle.std.specs.Prelude.{[], slice_get, Option, Some, None}
use Rattle.bc_data.specs.Typed.{TypedProgram, TypedTask}
use Rattle.bc_data.specs.declared.run.Invocation.{Invocation}
use Rattle.bc_data.specs.declared.run.Fault.{Fault}
use Rattle.bc_data.specs.declared.run.FaultKind.{FaultKind}
use Rattle.bc_data.specs.declared.run.FaultKind.TheVariants as fault
use Rattle.bc_data.specs.declared.run.Place.{Place}
use Rattle.bc_data.specs.declared.run.Ran.{Ran}
use Rattle.bc_data.specs.declared.run.Ran.TheVariants as ran
use Rattle.bc_data.specs.declared.run.Outcome.{Outcome}
use Rattle.bc_mean.specs.declared.plain.Plain.{Plain}
use Rattle.bc_mean.specs.Work.{Work, Got, Gives, Stops, Halt, Faulted, Missing, Wrong, look_of}
use Rattle.bc_mean.specs.Evaluate.{World}
use Rattle.bc_mean.specs.Execute.{Flow, execute_task, most_turns}
use Rattle.bc_mean.specs.Changes.{changes_between, fault_of_room}

-- at the start: nothing done, and the parameters touched, in their order
abbrev pub work_at_start : Invocation → Work
work_at_start v = record { changed = []; made = []; instances = []; text = []; turns = most_turns; touched = v.objects }

-- A halt that never comes for an accepted program is shown as some fault.
abbrev pub fault_of : Halt → Fault
fault_of (Faulted f) = f
fault_of (Missing id) = record { kind = fault.Null; at = record { line = 0; column = 0 } }
fault_of Wrong = record { kind = fault.Null; at = record { line = 0; column = 0 } }

-- A body that runs off its end exits too. A halt leaves nothing but its fault and what it touched.
abbrev pub ending : Plain → Got Flow → Outcome
ending S (Gives flow w) = record { ran = ran.Commit (changes_between S w); touched = w.touched }
ending S (Stops h w) = record { ran = ran.Faulted (fault_of h); touched = w.touched }

abbrev pub world_of : TypedProgram → Plain → Invocation → World
world_of P S v = record { look = look_of S; classes = P.classes; objects = v.objects }

abbrev pub body_run : TypedProgram → Plain → Option TypedTask → Invocation → Got Flow
body_run P S None v = Stops Wrong (work_at_start v)
body_run P S (Some t) v = execute_task (world_of P S v) t v (work_at_start v)

-- how the body of the invocation's task ends: it exits with these changes, or faults
abbrev pub body_outcome : TypedProgram → Plain → Invocation → Outcome
body_outcome P S v = ending S (body_run P S (slice_get P.tasks v.task) v)

-- the place of a task
abbrev pub place_of : Option TypedTask → Place
place_of None = record { line = 0; column = 0 }
place_of (Some t) = t.at

abbrev pub refused_room : Option FaultKind → Place → Outcome → Outcome
refused_room None at o = o
refused_room (Some k) at o = record { ran = ran.Faulted (record { kind = k; at = at }); touched = o.touched }

abbrev pub with_room : Plain → Place → Ran → Outcome → Outcome
with_room S at (ran.Commit c) o = refused_room (fault_of_room S c) at o
with_room S at (ran.Faulted f) o = o

-- the same, where an exit without room is a fault at the task
abbrev pub outcome : TypedProgram → Plain → Invocation → Outcome
outcome P S v = with_room S (place_of (slice_get P.tasks v.task)) (body_outcome P S v).ran (body_outcome P S v)

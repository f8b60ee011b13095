-- Runs of the source meaning over any bodies, and how they end.
use Rattle.std.specs.Prelude.{Option, Some, None, slice_get}
use Rattle.bc_data.specs.Typed.{TypedTask, TypedProgram}
use Rattle.bc_data.specs.declared.run.Invocation.{Invocation}
use Rattle.bc_mean.specs.Work.{Look, Got, Gives, Stops, Faulted, Missing, Wrong}
use Rattle.bc_mean.specs.Evaluate.{World}
use Rattle.bc_mean.specs.Execute.{Flow, execute_task}
use Rattle.bc_mean.specs.Outcome.{work_at_start}
use Rattle.bc_code.specs.Instructions.{Reads}

abbrev pub world_over : TypedProgram → Look → Invocation → World
world_over P L v = record { look = L; classes = P.classes; objects = v.objects }

abbrev pub task_over : TypedProgram → Look → Option TypedTask → Invocation → Got Flow
task_over P L None v = Stops Wrong (work_at_start v)
task_over P L (Some t) v = execute_task (world_over P L v) t v (work_at_start v)

-- the run of an invocation over some bodies
abbrev pub run_over : TypedProgram → Look → Invocation → Got Flow
run_over P L v = task_over P L (slice_get P.tasks v.task) v

-- a body that runs off its end exits too
abbrev pub ended : Got Flow → Got (Unit {0})
ended (Gives flow w) = Gives tt w
ended (Stops h w) = Stops h w

-- no form stood where it has no meaning
abbrev pub IsRight : {A : Type 0} → Got A → Type 0
IsRight (Gives x w) = Unit {0}
IsRight (Stops (Faulted f) w) = Unit {0}
IsRight (Stops (Missing id) w) = Unit {0}
IsRight (Stops Wrong w) = ⊥

-- what the machine reads where it runs an invocation over some bodies
abbrev pub reads_over : Look → Invocation → Reads
reads_over L v = record { look = L; objects = v.objects }

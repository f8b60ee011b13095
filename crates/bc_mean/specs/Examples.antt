-- Worked examples of the meaning: small programs with their whole runs, and the edges of its limits.
use Rattle.std.specs.Prelude.{◌≡◌, ℕ, ◌+◌, ◌<◌, ◌≤◌, false, true, List, [], ◌∷◌, ◌++◌, length, All, None, Some, codes}
use Rattle.bc_data.specs.Startup.{startup_class}
use Rattle.bc_data.specs.Typed.{TypedClass, TypedGuard, FlagIs, FlagNot, TypedParam, TypedProgram, TypedStatement, Exit, Print, TypedStatements, Nothing, Then, TextPart, TypedTask}
use Rattle.bc_data.specs.declared.program.Change.TheVariants as change
use Rattle.bc_data.specs.declared.run.Place.{Place}
use Rattle.bc_data.specs.declared.run.Value.TheVariants as value
use Rattle.bc_data.specs.declared.run.TagRef.{TagRef}
use Rattle.bc_data.specs.declared.run.TagRef.TheVariants as tag
use Rattle.bc_data.specs.declared.run.Kind.TheVariants as kind
use Rattle.bc_data.specs.declared.run.Body.{Body}
use Rattle.bc_data.specs.declared.run.Changes.{Changes}
use Rattle.bc_data.specs.declared.run.Written.{Written}
use Rattle.bc_data.specs.declared.run.FaultKind.{FaultKind}
use Rattle.bc_data.specs.declared.run.FaultKind.TheVariants as fault
use Rattle.bc_data.specs.declared.run.Invocation.{Invocation}
use Rattle.bc_data.specs.declared.run.Outcome.{Outcome}
use Rattle.bc_data.specs.declared.run.Ran.TheVariants as ran
use Rattle.bc_data.specs.declared.run.Stop.{Stop}
use Rattle.bc_data.specs.declared.run.Stop.TheVariants as stop
use Rattle.bc_mean.specs.declared.plain.Plain.{Plain}
use Rattle.bc_mean.specs.Store.{Fits, cells_in, input_array, start_store, startup_object}
use Rattle.bc_mean.specs.Enabled.{all_enabled, is_enabled}
use Rattle.bc_mean.specs.Changes.{apply_changes, changed_objects, fault_of_room, same_body}
use Rattle.bc_mean.specs.Outcome.{outcome}
use Rattle.bc_mean.specs.Serial.{Course, Failed, IsQuiet, IsSerialRun, committed, pending_after, replay, serial_step}

-- statements, one after the other
abbrev pub body_of : List TypedStatement → TypedStatements → TypedStatements
body_of [] front = front
body_of (s ∷ ss) front = body_of ss (Then front s)

-- a class with one flag and no fields
abbrev pub flagged_class : List ℕ → TypedClass
flagged_class name = record { name = name; flags = codes "f" ∷ []; fields = []; maker = None; methods = [] }

-- a parameter of a class under a guard, which binds no tag variable
abbrev pub param : ℕ → TypedGuard → TypedParam
param c g = record { class = c; guard = g; binds = [] }

abbrev pub here : Place
here = record { line = 1; column = 1 }

-- a task of the startup object under a guard
abbrev pub guarded_task : List ℕ → TypedGuard → List TypedStatement → TypedTask
guarded_task name g body = record {
  name = name;
  at = here;
  params = param 0 g ∷ [];
  variables = [];
  locals = 1;
  tags = 0;
  body = body_of body Nothing;
}

-- a task of the startup object while `initialstate` is set
abbrev pub startup_task : List ℕ → List TypedStatement → TypedTask
startup_task name body = guarded_task name (FlagIs 0) body

-- `print` of one text, or of two
abbrev pub print : List ℕ → TypedStatement
print text = Print here (TextPart text ∷ [])

abbrev pub print_two : Place → List ℕ → List ℕ → TypedStatement
print_two at first second = Print at (TextPart first ∷ TextPart second ∷ [])

abbrev pub set_flag : TypedStatement
set_flag = Exit (change.Flag 0 0 true ∷ [])

abbrev pub clear_flag : TypedStatement
clear_flag = Exit (change.Flag 0 0 false ∷ [])

abbrev pub clear_then_set_flag : TypedStatement
clear_then_set_flag = Exit (change.Flag 0 0 false ∷ change.Flag 0 0 true ∷ [])

-- a program of these tasks, with no class of its own
abbrev pub program : List TypedTask → TypedProgram
program tasks = record { classes = startup_class ∷ []; tag_types = []; tasks = tasks }

-- a task's invocation on the startup object
abbrev pub on_startup : ℕ → Invocation
on_startup n = record { task = n; objects = 0 ∷ []; tags = [] }

-- On the empty input the serial run has this stop, history and output. The history's replay is the store that it leaves.
pub record RunsSo (P : TypedProgram) (limit : ℕ) (s : Stop) (history : List Invocation) (text : List ℕ) : Type 0 where
  pub course : Course
  pub run : IsSerialRun P [] limit course s
  pub history_is : course.history ≡ history
  pub output_is : course.store.output ≡ text
  pub failures_are : course.failures ≡ []
  pub replayed : replay P [] history ≡ Some course.store

-- a program that greets and ends
abbrev pub hello : TypedProgram
hello = program (startup_task (codes "startup") (print (codes "hello\n") ∷ clear_flag ∷ []) ∷ [])

abbrev pub empty_program : TypedProgram
empty_program = program []

-- a task that stays enabled
abbrev pub again : TypedProgram
again = program (startup_task (codes "again") (print (codes "x") ∷ []) ∷ [])

-- two tasks that stay enabled
abbrev pub two_tasks : TypedProgram
two_tasks =
    program
    (
    startup_task (codes "a") (print (codes "a") ∷ [])
    ∷ startup_task (codes "b") (print (codes "b") ∷ [])
    ∷ []
    )

-- Whole runs. Tasks that stay enabled take turns.
pub record RunExamples : Type 0 where
  pub hello_ends : RunsSo hello 100 stop.End (on_startup 0 ∷ []) (codes "hello\n")
  pub hello_is_quiet : IsQuiet hello hello_ends.course.store
  pub empty_ends : RunsSo empty_program 1 stop.End [] []
  pub again_is_spent : RunsSo again 3 (stop.Spent (on_startup 0)) (on_startup 0 ∷ on_startup 0 ∷ on_startup 0 ∷ []) (codes "xxx")
  pub turns : RunsSo two_tasks 3 (stop.Spent (on_startup 1)) (on_startup 0 ∷ on_startup 1 ∷ on_startup 0 ∷ []) (codes "aba")

-- a task that wants the flag cleared
abbrev pub wants_cleared : TypedProgram
wants_cleared = program (guarded_task (codes "t") (FlagNot (FlagIs 0)) [] ∷ [])

abbrev pub cleared_startup : Body
cleared_startup = record startup_object { flags = 0 }

abbrev pub store_of : List Body → List ℕ → Plain
store_of bodies tags = record { bodies = cleared_startup ∷ input_array [] ∷ bodies; tags = tags; output = [] }

-- an object of a class with its one flag set
abbrev pub flagged : ℕ → List TagRef → Body
flagged c tags = record { kind = kind.Class c; cells = []; flags = 1; tags = tags }

-- a parameter that binds these tag variables
abbrev pub tagged_param : ℕ → List ℕ → TypedParam
tagged_param c binds = record { class = c; guard = FlagIs 0; binds = binds }

-- a program with the classes 1 and 2, the tag types 0 and 1, and one task
abbrev pub tagged_program : List TypedParam → List ℕ → TypedProgram
tagged_program params variables = record {
  classes = startup_class ∷ flagged_class (codes "L") ∷ flagged_class (codes "R") ∷ [];
  tag_types = codes "T" ∷ codes "U" ∷ [];
  tasks =
      record {
        name = codes "t";
        at = here;
        params = params;
        variables = variables;
        locals = length params;
        tags = length variables;
        body = Nothing;
      }
      ∷ [];
}

abbrev pub task_on : List ℕ → List ℕ → Invocation
task_on objects tags = record { task = 0; objects = objects; tags = tags }

-- two parameters of two classes that ask for one instance
abbrev pub joins : TypedProgram
joins = tagged_program (tagged_param 1 (0 ∷ []) ∷ tagged_param 2 (0 ∷ []) ∷ []) (0 ∷ [])

-- Objects 2 and 3 have instance 0, and 4 and 5 have instance 1, both of the task's type.
abbrev pub two_joined : Plain
two_joined = store_of (flagged 1 (tag.Old 0 ∷ []) ∷ flagged 2 (tag.Old 0 ∷ []) ∷ flagged 1 (tag.Old 1 ∷ []) ∷ flagged 2 (tag.Old 1 ∷ []) ∷ []) (0 ∷ 0 ∷ [])

-- two parameters of one class
abbrev pub pairs : TypedProgram
pairs = tagged_program (tagged_param 1 [] ∷ tagged_param 1 [] ∷ []) []

abbrev pub two_alike : Plain
two_alike = store_of (flagged 1 [] ∷ flagged 1 [] ∷ []) []

-- one parameter with two variables of one type
abbrev pub two_variables : TypedProgram
two_variables = tagged_program (tagged_param 1 (0 ∷ 1 ∷ []) ∷ []) (0 ∷ 0 ∷ [])

-- a variable that no parameter binds
abbrev pub unbound_variable : TypedProgram
unbound_variable = tagged_program (tagged_param 1 [] ∷ []) (0 ∷ [])

-- Enabled are the tuples of different objects whose flags meet the guards and that share the instances, ascending.
pub record EnabledExamples : Type 0 where
  pub negated_guard : all_enabled wants_cleared (start_store []) ≡ []
  pub negated_guard_holds : all_enabled wants_cleared (store_of [] []) ≡ on_startup 0 ∷ []
  pub flag_cleared : all_enabled hello (store_of [] []) ≡ []
  pub joined : all_enabled joins two_joined ≡ task_on (2 ∷ 3 ∷ []) (0 ∷ []) ∷ task_on (4 ∷ 5 ∷ []) (1 ∷ []) ∷ []
  pub wrong_type : all_enabled joins (record two_joined { tags = 1 ∷ 1 ∷ [] }) ≡ []
  pub both_orders : all_enabled pairs two_alike ≡ task_on (2 ∷ 3 ∷ []) [] ∷ task_on (3 ∷ 2 ∷ []) [] ∷ []
  pub not_itself : is_enabled pairs two_alike (task_on (2 ∷ 2 ∷ []) []) ≡ false
  pub instance_not_there : is_enabled unbound_variable (store_of (flagged 1 [] ∷ []) []) (task_on (2 ∷ []) (0 ∷ [])) ≡ false
  pub one_instance_twice : all_enabled two_variables (store_of (flagged 1 (tag.Old 0 ∷ []) ∷ []) (0 ∷ [])) ≡ task_on (2 ∷ []) (0 ∷ 0 ∷ []) ∷ []
  pub two_instances :
      all_enabled two_variables (store_of (flagged 1 (tag.Old 0 ∷ tag.Old 1 ∷ []) ∷ []) (0 ∷ 0 ∷ []))
      ≡ task_on (2 ∷ []) (0 ∷ 0 ∷ []) ∷ task_on (2 ∷ []) (0 ∷ 1 ∷ []) ∷ task_on (2 ∷ []) (1 ∷ 0 ∷ []) ∷ task_on (2 ∷ []) (1 ∷ 1 ∷ []) ∷ []

-- Room ends exactly at each limit, and the first sum past its limit is the fault.
pub record RoomExamples (S : Plain) (c : Changes) : Type 0 where
  pub all_full :
      length S.bodies + length c.made ≡ 65536
      → cells_in S.bodies + cells_in c.made ≡ 4194304
      → length S.tags + length c.tags ≡ 65536
      → length S.output + length c.text ≡ 16777216
      → fault_of_room S c ≡ None
  pub objects : length S.bodies + length c.made ≡ 65537 → fault_of_room S c ≡ Some fault.Objects
  pub cells :
      length S.bodies + length c.made ≤ 65536 → cells_in S.bodies + cells_in c.made ≡ 4194305 → fault_of_room S c ≡ Some fault.Cells
  pub tags :
      length S.bodies + length c.made ≤ 65536
      → cells_in S.bodies + cells_in c.made ≤ 4194304
      → length S.tags + length c.tags ≡ 65537
      → fault_of_room S c ≡ Some fault.Tags
  pub output :
      length S.bodies + length c.made ≤ 65536
      → cells_in S.bodies + cells_in c.made ≤ 4194304
      → length S.tags + length c.tags ≤ 65536
      → length S.output + length c.text ≡ 16777217
      → fault_of_room S c ≡ Some fault.Output

-- what an invocation comes to that touched the startup object alone
abbrev pub commits : List Written → List ℕ → Outcome
commits bodies text = record { ran = ran.Commit (record { bodies = bodies; made = []; tags = []; text = text }); touched = 0 ∷ [] }

abbrev pub faulted : FaultKind → Place → Outcome
faulted k at = record { ran = ran.Faulted (record { kind = k; at = at }); touched = 0 ∷ [] }

-- a task of one statement
abbrev pub does : TypedStatement → TypedProgram
does s = program (startup_task (codes "t") (s ∷ []) ∷ [])

-- what the task of one statement comes to at the start of the run on the empty input
abbrev pub does_at_start : TypedStatement → Outcome
does_at_start s = outcome (does s) (start_store []) (on_startup 0)

-- The text of an invocation has its limit, and the fault is at the `print` that would pass it.
pub record TextExamples (at : Place) (first second : List ℕ) : Type 0 where
  pub full : length first + length second ≡ 65536 → does_at_start (print_two at first second) ≡ commits [] (first ++ second)
  pub too_long :
      length first ≤ 65536 → length first + length second ≡ 65537 → does_at_start (print_two at first second) ≡ faulted fault.Text at
  pub first_too_long : length first ≡ 65537 → does_at_start (print_two at first second) ≡ faulted fault.Text at

-- A flag that is set again, or cleared and set, is no change.
pub record ExitExamples : Type 0 where
  pub sets_a_set_flag : does_at_start set_flag ≡ commits [] []
  pub clears_and_sets : does_at_start clear_then_set_flag ≡ commits [] []
  pub clears : does_at_start clear_flag ≡ commits (record { id = 0; body = cleared_startup } ∷ []) []

abbrev pub with_output : List ℕ → Plain
with_output output = record (start_store []) { output = output }

-- after this history, with a task left that prints
abbrev pub course_before : List Invocation → List ℕ → Course
course_before history output = record {
  store = with_output output;
  history = history;
  pending = on_startup 0 ∷ [];
  failures = [];
  ended = None;
}

-- Room comes before the limit of commits: a run without room is a failure at the task, even where no commit is left.
pub record OutputExamples (output text : List ℕ) (history : List Invocation) : Type 0 where
  pub no_room :
      length text ≤ 65536
      → length output + length text ≡ 16777217
      → outcome (does (print text)) (with_output output) (on_startup 0) ≡ faulted fault.Output here
  pub before_the_limit :
      length text ≤ 65536
      → length output + length text ≡ 16777217
      → length history ≡ 256
      → serial_step (does (print text)) 256 (course_before history output)
      ≡ record (course_before history output) {
        pending = [];
        failures = record { v = on_startup 0; fault = record { kind = fault.Output; at = here }; touched = 0 ∷ [] } ∷ [];
      }

abbrev pub failure : Invocation → List ℕ → Failed
failure v touched = record { v = v; fault = record { kind = fault.Assert; at = here }; touched = touched }

abbrev pub pair : Invocation
pair = task_on (2 ∷ 3 ∷ []) []

abbrev pub other_pair : Invocation
other_pair = task_on (3 ∷ 2 ∷ []) []

-- object 2 of the two alike with its flag cleared
abbrev pub one_cleared : Plain
one_cleared = store_of (record { kind = kind.Class 1; cells = []; flags = 0; tags = [] } ∷ flagged 1 [] ∷ []) []

-- one pair runs, and the other failed twice: once it touched both objects, once object 3 alone
abbrev pub course_with_failures : Course
course_with_failures = record {
  store = two_alike;
  history = [];
  pending = pair ∷ [];
  failures = failure other_pair (3 ∷ 2 ∷ []) ∷ failure other_pair (3 ∷ []) ∷ [];
  ended = None;
}

-- Pending invocations keep their order before the others. Running and failed ones are not pending.
pub record PendingExamples : Type 0 where
  pub ascending : pending_after pairs two_alike [] [] [] ≡ pair ∷ other_pair ∷ []
  pub kept_first : pending_after pairs two_alike [] [] (other_pair ∷ []) ≡ other_pair ∷ pair ∷ []
  pub not_running : pending_after pairs two_alike [] (pair ∷ []) [] ≡ other_pair ∷ []
  pub not_failed : pending_after pairs two_alike (failure pair (2 ∷ []) ∷ []) [] [] ≡ other_pair ∷ []
  pub no_longer_enabled : pending_after pairs one_cleared [] [] (other_pair ∷ pair ∷ []) ≡ []
  pub one_failure_dropped :
      (committed pairs one_cleared pair [] course_with_failures).failures ≡ failure other_pair (3 ∷ []) ∷ []

-- two new objects that name each other, one with a new tag instance, and the startup object that names one of them
abbrev pub linked : Changes
linked = record {
  bodies = record { id = 0; body = record { kind = kind.Class 0; cells = value.New 1 ∷ []; flags = 0; tags = [] } } ∷ [];
  made =
      record { kind = kind.Class 1; cells = value.New 1 ∷ value.Old 1 ∷ []; flags = 1; tags = tag.Old 0 ∷ tag.New 0 ∷ [] }
      ∷ record { kind = kind.Objects 1; cells = value.New 0 ∷ value.Null ∷ []; flags = 0; tags = [] }
      ∷ [];
  tags = 1 ∷ [];
  text = codes "x";
}

abbrev pub after_linked : Plain
after_linked = record {
  bodies =
      record { kind = kind.Class 0; cells = value.Old 3 ∷ []; flags = 0; tags = [] }
      ∷ input_array []
      ∷ record { kind = kind.Class 1; cells = value.Old 3 ∷ value.Old 1 ∷ []; flags = 1; tags = tag.Old 0 ∷ tag.Old 1 ∷ [] }
      ∷ record { kind = kind.Objects 1; cells = value.Old 2 ∷ value.Null ∷ []; flags = 0; tags = [] }
      ∷ [];
  tags = 0 ∷ 1 ∷ [];
  output = codes "wx";
}

-- New objects and instances get the next numbers. The order of an object's tags is a part of it.
pub record ChangeExamples : Type 0 where
  pub applied : apply_changes (record (start_store []) { tags = 0 ∷ []; output = codes "w" }) linked ≡ after_linked
  pub order_of_tags : same_body (flagged 1 (tag.Old 0 ∷ tag.Old 1 ∷ [])) (flagged 1 (tag.Old 1 ∷ tag.Old 0 ∷ [])) ≡ false
  pub changed : changed_objects two_alike one_cleared ≡ 2 ∷ []

-- a store of the objects at the start and one more of class 1, with one instance of type 0
abbrev pub with_object : Body → Plain
with_object b = store_of (b ∷ []) (0 ∷ [])

-- The store at the start fits each program. An object with a flag or an instance too many, or one instance
-- twice, does not, and an array of a number that has no 32 bits does not.
pub record FitExamples : Type 0 where
  pub start : (tasks : List TypedTask) (input : List ℕ) → All (λ b. b < 256) input → length input ≤ 65536 → Fits (program tasks) (start_store input)
  pub tagged : Fits joins (with_object (flagged 1 (tag.Old 0 ∷ [])))
  pub unknown_flag : Fits joins (with_object (record { kind = kind.Class 1; cells = []; flags = 2; tags = [] })) → ⊥
  pub unknown_instance : Fits joins (with_object (flagged 1 (tag.Old 1 ∷ []))) → ⊥
  pub one_instance_twice : Fits joins (with_object (flagged 1 (tag.Old 0 ∷ tag.Old 0 ∷ []))) → ⊥
  pub unknown_class : Fits joins (with_object (flagged 3 [])) → ⊥
  pub cell_too_many : Fits joins (with_object (record { kind = kind.Class 1; cells = value.Null ∷ []; flags = 1; tags = [] })) → ⊥
  pub int_too_large : Fits joins (with_object (input_array (2147483648 ∷ []))) → ⊥
  pub wrong_element : Fits joins (with_object (record { kind = kind.Objects 1; cells = value.Old 1 ∷ []; flags = 0; tags = [] })) → ⊥

pub record Examples : Type 0 where
  pub runs : RunExamples
  pub enabled : EnabledExamples
  pub room : (S : Plain) (c : Changes) → RoomExamples S c
  pub text : (at : Place) (first second : List ℕ) → TextExamples at first second
  pub exits : ExitExamples
  pub output : (output text : List ℕ) (history : List Invocation) → OutputExamples output text history
  pub pending : PendingExamples
  pub changes : ChangeExamples
  pub fits : FitExamples

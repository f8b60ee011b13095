-- The worked examples of whole runs and of enabled invocations hold, by computation.
use Rattle.std.proofs.Common.{refl, arith, [], ◌∷◌}
use Rattle.std.specs.Prelude.{codes}
use Rattle.bc_data.specs.declared.run.Stop.TheVariants as stop
use Rattle.bc_mean.specs.Enabled.{all_enabled}
use Rattle.bc_mean.specs.Serial.{course_at_start, serial_steps}
use Rattle.bc_mean.specs.Examples.{EnabledExamples, RunExamples, RunsSo, again, empty_program, hello, on_startup, two_tasks}

hello_ends : RunsSo hello 100 stop.End (on_startup 0 ∷ []) (codes "hello\n")
unfolding all_enabled
hello_ends = record {
  course = serial_steps hello 100 2 (course_at_start hello []);
  run = record { steps = 2; reached = refl; ended = refl };
  history_is = refl;
  output_is = refl;
  failures_are = refl;
  replayed = refl;
}

empty_ends : RunsSo empty_program 1 stop.End [] []
unfolding all_enabled
empty_ends = record {
  course = serial_steps empty_program 1 1 (course_at_start empty_program []);
  run = record { steps = 1; reached = refl; ended = refl };
  history_is = refl;
  output_is = refl;
  failures_are = refl;
  replayed = refl;
}

again_is_spent : RunsSo again 3 (stop.Spent (on_startup 0)) (on_startup 0 ∷ on_startup 0 ∷ on_startup 0 ∷ []) (codes "xxx")
unfolding all_enabled
again_is_spent = record {
  course = serial_steps again 3 4 (course_at_start again []);
  run = record { steps = 4; reached = refl; ended = refl };
  history_is = refl;
  output_is = refl;
  failures_are = refl;
  replayed = refl;
}

turns : RunsSo two_tasks 3 (stop.Spent (on_startup 1)) (on_startup 0 ∷ on_startup 1 ∷ on_startup 0 ∷ []) (codes "aba")
unfolding all_enabled
turns = record {
  course = serial_steps two_tasks 3 4 (course_at_start two_tasks []);
  run = record { steps = 4; reached = refl; ended = refl };
  history_is = refl;
  output_is = refl;
  failures_are = refl;
  replayed = refl;
}

pub runs_hold : RunExamples
unfolding all_enabled hello_ends
runs_hold = record {
  hello_ends = hello_ends;
  hello_is_quiet = λ k d h. absurd (omega arith);
  empty_ends = empty_ends;
  again_is_spent = again_is_spent;
  turns = turns;
}

pub enabled_hold : EnabledExamples
unfolding all_enabled
enabled_hold = record {
  negated_guard = refl;
  negated_guard_holds = refl;
  flag_cleared = refl;
  joined = refl;
  wrong_type = refl;
  both_orders = refl;
  not_itself = refl;
  instance_not_there = refl;
  one_instance_twice = refl;
  two_instances = refl;
}

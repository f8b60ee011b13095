-- The worked examples of expressions and statements hold, by computation.
use Rattle.std.proofs.Common.{refl, ◌≡◌, ℕ, ◌+◌, true, false, length, nat_lt, arith}
use Rattle.std.proofs.lemmas.Bool.{le-leb, le-ltb, lt-leb, lt-ltb}
use Rattle.std.specs.Fmt.{digits}
use Rattle.std.specs.Int.{int_wrap}
use Rattle.std.specs.Prelude.{nat_le}
use Rattle.bc_mean.specs.Store.{cells_in}
use Rattle.bc_mean.specs.Evaluate.{World, Frame, Calls}
use Rattle.bc_mean.specs.Work.{Work}
use Rattle.bc_mean.specs.EvaluationExamples.{NumberExamples, OrderExamples, ObjectExamples, CallExamples, LoopExamples, NewExamples, ConstructorExamples, ActionExamples, PrintExamples}

pub numbers_hold : NumberExamples
unfolding int_wrap
numbers_hold = record {
  quotient_is_cut_towards_zero = λ W C f at w. refl;
  quotient_by_a_number_below_zero = λ W C f at w. refl;
  remainder_below_zero = λ W C f at w. refl;
  remainder_above_zero = λ W C f at w. refl;
  quotient_wraps = λ W C f at w. refl;
  remainder_of_the_least = λ W C f at w. refl;
  sum_wraps = λ W C f at w. refl;
  difference_wraps = λ W C f at w. refl;
  product_wraps = λ W C f at w. refl;
  least_negated = λ W C f w. refl;
  less = λ W C f at w. refl;
  not_less_than_itself = λ W C f at w. refl;
  at_most_itself = λ W C f at w. refl;
  more = λ W C f at w. refl;
  not_at_least = λ W C f at w. refl;
  same = λ W C f at w. refl;
  different = λ W C f at w. refl;
  division_by_zero = λ W C f at w. refl;
  remainder_by_zero = λ W C f at w. refl;
  zero_by_zero = λ W C f at w. refl;
}

pub order_holds : (W : World) (C : Calls) (n : ℕ) (f : Frame) (w : Work) → OrderExamples W C n f w
unfolding int_wrap
order_holds W C n f w = record {
  left_before_right = refl;
  right_before_operator = refl;
  and_leaves_out = refl;
  and_goes_on = refl;
  or_leaves_out = refl;
  or_goes_on = refl;
  null_element = refl;
  null_field = refl;
  null_length = refl;
  null_call = refl;
  index_before_null = refl;
  argument_before_null = refl;
  arguments_in_order = refl;
  field_value_before_null = refl;
  element_value_before_null = refl;
  index_before_value = refl;
  null_element_written = refl;
  argument_before_new = refl;
  length_before_new = refl;
  asserted = refl;
  not_asserted = refl;
  one_branch = refl;
  other_branch = refl;
}

pub objects_hold : (C : Calls) (n turns : ℕ) → ObjectExamples C n turns
unfolding int_wrap
objects_hold C n turns = record {
  first_element = refl;
  last_element = refl;
  before_the_first = refl;
  past_the_last = refl;
  length_read = refl;
  element_written = refl;
  written_past_the_last = refl;
  value_before_bounds = refl;
  index_before_touch = refl;
  field_read = refl;
  touched_once = refl;
  touched_in_order = refl;
  field_written = refl;
  value_before_touch = refl;
  newest_stays = refl;
  newest_read_by_alias = refl;
  same_object = λ w. refl;
  not_the_same = λ w. refl;
  old_is_not_new = λ w. refl;
  not_null = λ w. refl;
  new_is_read = refl;
  new_is_written = refl;
}

pub calls_hold : CallExamples
unfolding int_wrap
calls_hold = record {
  last_turn = refl;
  no_turn = refl;
  next_without_turn = refl;
  null_before_turn = refl;
  deepest = refl;
  too_deep = refl;
  too_deep_without_turn = refl;
  deepest_within = refl;
  too_deep_within = refl;
  no_result = refl;
  goes_on = refl;
  result_dropped = refl;
  return_leaves_the_while = refl;
  while_without_turn = refl;
  recursion = refl;
  recursion_without_turn = refl;
  recursion_without_end = refl;
  arguments_fill_slots = refl;
  argument_before_touch = refl;
  method_writes = refl;
}

pub loops_hold : (W : World) (C : Calls) → LoopExamples W C
unfolding int_wrap
loops_hold W C = record {
  three_rounds = refl;
  turns_left = refl;
  one_turn_too_few = refl;
  without_end = refl;
  turn_before_body = refl;
  no_round = λ f body w. refl;
  condition_faults = λ f body w. refl;
}

pub new_holds : (C : Calls) (n turns : ℕ) → NewExamples C n turns
unfolding int_wrap
new_holds C n turns = record {
  cells_at_first = refl;
  next_number = refl;
  set_then_cleared = refl;
  cleared_then_set = refl;
  instances_in_order = refl;
  one_instance_too_many = refl;
  zeros = refl;
  falses = refl;
  nulls = refl;
  empty = refl;
  length_below_zero = λ w. refl;
  too_long = λ w. refl;
  too_many_objects = λ w tweaks e.
      let e1 : nat_lt (length w.made) 65536 ≡ false = le-ltb _ _ (omega arith) in
      rw e1 refl;
  too_many_arrays = λ w e.
      let e1 : nat_lt (length w.made) 65536 ≡ false = le-ltb _ _ (omega arith) in
      rw e1 refl;
  too_many_cells = λ w h e.
      let e1 : nat_lt (length w.made) 65536 ≡ true = lt-ltb _ _ h in
      let e2 : nat_le (cells_in w.made + 3) 4194304 ≡ false = lt-leb _ _ (omega arith) in
      rw (e1, e2) refl;
  last_room = λ w h e.
      let e1 : nat_lt (length w.made) 65536 ≡ true = lt-ltb _ _ (omega arith) in
      let e2 : nat_le (cells_in w.made + 3) 4194304 ≡ true = le-leb _ _ (omega arith) in
      rw (e1, e2) refl;
  two_instances = refl;
  last_instance = λ w e.
      let e1 : nat_lt (length w.instances) 65536 ≡ true = lt-ltb _ _ (omega arith) in
      rw e1 refl;
  too_many_instances = λ w e.
      let e1 : nat_lt (length w.instances) 65536 ≡ false = le-ltb _ _ (omega arith) in
      rw e1 refl;
}

pub constructors_hold : ConstructorExamples
unfolding int_wrap
constructors_hold = record {
  stores_itself = refl;
  stores_its_argument = refl;
  no_turn = refl;
  too_deep = refl;
  braces_first = refl;
  none_asks_for_no_turn = refl;
}

pub actions_hold : (C : Calls) (n turns : ℕ) → ActionExamples C n turns
unfolding int_wrap
actions_hold C n turns = record {
  clear_closes_up = refl;
  clear_of_none = refl;
  cleared_and_added = refl;
  added_and_cleared = refl;
  added_last = refl;
  added_again = refl;
  one_too_many = refl;
  added_again_among_16 = refl;
  room_by_clear = refl;
  flags_in_order = refl;
  second_flag = refl;
  leaves_the_loop = refl;
  leaves_each_block = refl;
}

pub prints_hold : (C : Calls) (n turns : ℕ) → PrintExamples C n turns
unfolding int_wrap digits
prints_hold C n turns = record {
  in_order = refl;
  zero_and_least = refl;
  one_by_one = refl;
  up_to_a_fault = refl;
  not_committed = refl;
}

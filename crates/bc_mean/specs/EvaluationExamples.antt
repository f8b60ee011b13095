-- Worked examples of the meaning of expressions and statements: terms, and what they come to.
use Rattle.std.specs.Prelude.{◌≡◌, ℕ, ℤ, pos, ◌<◌, false, true, List, [], ◌∷◌, ◌++◌, length, None, codes}
use Rattle.bc_data.specs.declared.program.Change.{Change}
use Rattle.bc_data.specs.declared.program.Change.TheVariants as change
use Rattle.bc_data.specs.declared.program.Op.{Op}
use Rattle.bc_data.specs.declared.program.Op.TheVariants as op
use Rattle.bc_data.specs.declared.program.Tweak.{Tweak}
use Rattle.bc_data.specs.declared.program.Tweak.TheVariants as tweak
use Rattle.bc_data.specs.declared.run.FaultKind.TheVariants as fault
use Rattle.bc_data.specs.declared.run.Kind.TheVariants as kind
use Rattle.bc_data.specs.declared.run.Outcome.{Outcome}
use Rattle.bc_data.specs.declared.run.Place.{Place}
use Rattle.bc_data.specs.declared.run.Ran.TheVariants as ran
use Rattle.bc_data.specs.declared.run.TagRef.TheVariants as tag
use Rattle.bc_data.specs.declared.run.Value.{Value}
use Rattle.bc_data.specs.declared.run.Value.TheVariants as value
use Rattle.bc_data.specs.Typed.{TypedExpression, Int, Truth, Null, Neg, Two, FieldOf, Length, Elem, Call, Make, Array, NoArg, Arg, NumberPart, TextPart, TruthPart, TypedPart, Set, NewTag, SetField, SetElem, Drop, Perform, If, While, Print, Assert, Exit, Block, TypedStatements, Nothing, Then}
use Rattle.bc_mean.specs.Store.{cells_in}
use Rattle.bc_mean.specs.Work.{Work, Got, Gives, faults}
use Rattle.bc_mean.specs.Evaluate.{World, Frame, Calls, evaluate}
use Rattle.bc_mean.specs.Execute.{Flow, Goes, Leaves, calls, execute, execute_all, perform, set_slot, set_tag}
use Rattle.bc_mean.specs.Outcome.{ending}
use Rattle.bc_mean.specs.EvaluationTerms.{minus, least, greatest, place, one_by_zero, faulty_truth, one, two, item_of, ints_of, old_tags, store, world, frame, item, alias, array, before, touching, writing, making, number_of, element, set_number, set_element, new_frame, call_get, call_idle, call_first, call_sum, call_put, call_less, count_down, new_item, new_knot, new_box, new_array, item_with, array_of, tagged_frame, add_all, rebound, printing}

-- an operator on two numbers gives this, wherever it stands
abbrev pub Computes : Op → ℤ → ℤ → Value → Type 0
Computes o a b x = (W : World) (C : Calls) (f : Frame) (at : Place) (w : Work) → evaluate W C f (Two at o (Int a) (Int b)) w ≡ Gives x w

-- with 0 on its right an operator faults, and nothing is done
abbrev pub FaultsByZero : Op → ℤ → Type 0
FaultsByZero o a =
    (W : World) (C : Calls) (f : Frame) (at : Place) (w : Work) → evaluate W C f (Two at o (Int a) (Int (pos 0))) w ≡ faults fault.Zero at w

-- Numbers have 32 bits in two's complement.
pub record NumberExamples : Type 0 where
  pub quotient_is_cut_towards_zero : Computes op.Div (minus 7) (pos 2) (value.Int (minus 3))
  pub quotient_by_a_number_below_zero : Computes op.Div (pos 7) (minus 2) (value.Int (minus 3))
  pub remainder_below_zero : Computes op.Rem (minus 7) (pos 2) (value.Int (minus 1))
  pub remainder_above_zero : Computes op.Rem (pos 7) (minus 2) (value.Int (pos 1))
  pub quotient_wraps : Computes op.Div least (minus 1) (value.Int least)
  pub remainder_of_the_least : Computes op.Rem least (minus 1) (value.Int (pos 0))
  pub sum_wraps : Computes op.Add greatest (pos 1) (value.Int least)
  pub difference_wraps : Computes op.Sub least (pos 1) (value.Int greatest)
  pub product_wraps : Computes op.Mul greatest (pos 2) (value.Int (minus 2))
  pub least_negated : (W : World) (C : Calls) (f : Frame) (w : Work) → evaluate W C f (Neg (Int least)) w ≡ Gives (value.Int least) w
  pub less : Computes op.Less least greatest (value.Bool true)
  pub not_less_than_itself : Computes op.Less (pos 2) (pos 2) (value.Bool false)
  pub at_most_itself : Computes op.LessEq (pos 2) (pos 2) (value.Bool true)
  pub more : Computes op.More (pos 0) (minus 1) (value.Bool true)
  pub not_at_least : Computes op.MoreEq (minus 1) (pos 0) (value.Bool false)
  pub same : Computes op.Same (minus 1) (minus 1) (value.Bool true)
  pub different : Computes op.Differ (minus 1) (pos 1) (value.Bool true)
  pub division_by_zero : FaultsByZero op.Div (pos 1)
  pub remainder_by_zero : FaultsByZero op.Rem (pos 1)
  pub zero_by_zero : FaultsByZero op.Div (pos 0)

-- What comes first faults first. Until then nothing is done.
pub record OrderExamples (W : World) (C : Calls) (n : ℕ) (f : Frame) (w : Work) : Type 0 where
  pub left_before_right : evaluate W C f (Two (place 5) op.Add (one_by_zero (place 2)) (one_by_zero (place 8))) w ≡ faults fault.Zero (place 2) w
  pub right_before_operator : evaluate W C f (Two (place 5) op.Div (one_by_zero (place 2)) (Int (pos 0))) w ≡ faults fault.Zero (place 2) w
  pub and_leaves_out : evaluate W C f (Two (place 4) op.And (Truth false) faulty_truth) w ≡ Gives (value.Bool false) w
  pub and_goes_on : evaluate W C f (Two (place 4) op.And (Truth true) faulty_truth) w ≡ faults fault.Zero (place 7) w
  pub or_leaves_out : evaluate W C f (Two (place 4) op.Or (Truth true) faulty_truth) w ≡ Gives (value.Bool true) w
  pub or_goes_on : evaluate W C f (Two (place 4) op.Or (Truth false) faulty_truth) w ≡ faults fault.Zero (place 7) w
  pub null_element : evaluate W C f (Elem (place 2) Null (Int (pos 0))) w ≡ faults fault.Null (place 2) w
  pub null_field : evaluate W C f (FieldOf (place 2) Null 0) w ≡ faults fault.Null (place 2) w
  pub null_length : evaluate W C f (Length (place 2) Null) w ≡ faults fault.Null (place 2) w
  pub null_call : evaluate W C f (Call (place 2) Null 0 0 NoArg) w ≡ faults fault.Null (place 2) w
  pub index_before_null : evaluate W C f (Elem (place 2) Null (one_by_zero (place 3))) w ≡ faults fault.Zero (place 3) w
  pub argument_before_null : evaluate W C f (Call (place 2) Null 0 0 (Arg NoArg (one_by_zero (place 4)))) w ≡ faults fault.Zero (place 4) w
  pub arguments_in_order :
      evaluate W C f (Call (place 2) Null 0 0 (Arg (Arg NoArg (one_by_zero (place 4))) (one_by_zero (place 8)))) w ≡ faults fault.Zero (place 4) w
  pub field_value_before_null : execute W C n f (SetField (place 2) Null 0 (one_by_zero (place 6))) w ≡ faults fault.Zero (place 6) w
  pub element_value_before_null :
      execute W C n f (SetElem (place 2) Null (Int (pos 5)) (one_by_zero (place 8))) w ≡ faults fault.Zero (place 8) w
  pub index_before_value :
      execute W C n f (SetElem (place 2) Null (one_by_zero (place 3)) (one_by_zero (place 8))) w ≡ faults fault.Zero (place 3) w
  pub null_element_written : execute W C n f (SetElem (place 2) Null (Int (pos 0)) (Int (pos 1))) w ≡ faults fault.Null (place 2) w
  pub argument_before_new : evaluate W C f (Make (place 2) 0 (Arg NoArg (one_by_zero (place 6))) []) w ≡ faults fault.Zero (place 6) w
  pub length_before_new : evaluate W C f (Array (place 2) kind.Ints (one_by_zero (place 6))) w ≡ faults fault.Zero (place 6) w
  pub asserted : execute W C n f (Assert (place 2) (Truth true)) w ≡ Gives (Goes f) w
  pub not_asserted : execute W C n f (Assert (place 2) (Truth false)) w ≡ faults fault.Assert (place 2) w
  pub one_branch : execute W C n f (If (Truth true) Nothing (Then Nothing (Drop (one_by_zero (place 8))))) w ≡ Gives (Goes f) w
  pub other_branch : execute W C n f (If (Truth false) (Then Nothing (Drop (one_by_zero (place 8)))) Nothing) w ≡ Gives (Goes f) w

-- Objects of the store are touched once, where they are read or written. A write is seen through each name.
pub record ObjectExamples (C : Calls) (n turns : ℕ) : Type 0 where
  pub first_element : evaluate world C frame (element (pos 0)) (before turns) ≡ Gives (value.Int (pos 10)) (touching (1 ∷ []) turns)
  pub last_element : evaluate world C frame (element (pos 2)) (before turns) ≡ Gives (value.Int (pos 30)) (touching (1 ∷ []) turns)
  pub before_the_first : evaluate world C frame (element (minus 1)) (before turns) ≡ faults fault.Bounds (place 6) (touching (1 ∷ []) turns)
  pub past_the_last : evaluate world C frame (element (pos 3)) (before turns) ≡ faults fault.Bounds (place 6) (touching (1 ∷ []) turns)
  pub length_read : evaluate world C frame (Length (place 6) array) (before turns) ≡ Gives (value.Int (pos 3)) (touching (1 ∷ []) turns)
  pub element_written :
      execute world C n frame (set_element (pos 2) (minus 1)) (before turns)
      ≡ Gives (Goes frame) (writing 1 (ints_of (pos 10 ∷ pos 20 ∷ minus 1 ∷ [])) turns)
  pub written_past_the_last :
      execute world C n frame (set_element (pos 3) (pos 1)) (before turns) ≡ faults fault.Bounds (place 6) (touching (1 ∷ []) turns)
  pub value_before_bounds :
      execute world C n frame (SetElem (place 6) array (Int (pos 5)) (one_by_zero (place 11))) (before turns) ≡ faults fault.Zero (place 11) (before turns)
  pub index_before_touch :
      evaluate world C frame (Elem (place 6) array (number_of item)) (before turns) ≡ faults fault.Bounds (place 6) (touching (0 ∷ 1 ∷ []) turns)
  pub field_read : evaluate world C frame (number_of item) (before turns) ≡ Gives (value.Int (pos 7)) (touching (0 ∷ []) turns)
  pub touched_once :
      evaluate world C frame (Two (place 4) op.Add (number_of item) (number_of alias)) (before turns) ≡ Gives (value.Int (pos 14)) (touching (0 ∷ []) turns)
  pub touched_in_order :
      evaluate world C frame (Two (place 4) op.Add (element (pos 0)) (number_of item)) (before turns)
      ≡ Gives (value.Int (pos 17)) (touching (1 ∷ 0 ∷ []) turns)
  pub field_written :
      execute world C n frame (set_number item (pos 5)) (before turns) ≡ Gives (Goes frame) (writing 0 (item_of (pos 5) []) turns)
  pub value_before_touch :
      execute world C n frame (SetField (place 2) item 0 (element (pos 0))) (before turns)
      ≡ Gives (Goes frame) (record (writing 0 (item_of (pos 10) []) turns) { touched = 1 ∷ 0 ∷ [] })
  pub newest_stays :
      execute_all world C n frame (two (set_number item (pos 5)) (set_number alias (pos 6))) (before turns)
      ≡ Gives (Goes frame) (writing 0 (item_of (pos 6) []) turns)
  pub newest_read_by_alias :
      execute_all world C n frame (two (set_number item (pos 5)) (Set 3 (number_of alias))) (before turns)
      ≡ Gives (Goes (set_slot frame 3 (value.Int (pos 5)))) (writing 0 (item_of (pos 5) []) turns)
  pub same_object : (w : Work) → evaluate world C frame (Two (place 4) op.Same item alias) w ≡ Gives (value.Bool true) w
  pub not_the_same : (w : Work) → evaluate world C frame (Two (place 4) op.Same item array) w ≡ Gives (value.Bool false) w
  pub old_is_not_new :
      (w : Work)
      → evaluate world C (record { slots = value.Old 0 ∷ value.New 0 ∷ []; tags = [] }) (Two (place 4) op.Same item alias) w ≡ Gives (value.Bool false) w
  pub not_null : (w : Work) → evaluate world C frame (Two (place 4) op.Differ item Null) w ≡ Gives (value.Bool true) w
  pub new_is_read :
      evaluate world C new_frame (number_of item) (making (item_of (pos 7) [] ∷ []) turns)
      ≡ Gives (value.Int (pos 7)) (making (item_of (pos 7) [] ∷ []) turns)
  pub new_is_written :
      execute world C n new_frame (set_number item (pos 5)) (making (item_of (pos 7) [] ∷ []) turns)
      ≡ Gives (Goes new_frame) (making (item_of (pos 5) [] ∷ []) turns)

-- An expression within so many calls, with so many turns left. The item is the one object that comes to be touched.
abbrev pub evaluated_at : ℕ → TypedExpression → ℕ → Got Value
evaluated_at depth e turns = evaluate world (calls world 5 depth) frame e (before turns)

abbrev pub evaluated : TypedExpression → ℕ → Got Value
evaluated e turns = evaluated_at 0 e turns

abbrev pub executed : TypedStatements → ℕ → Got Flow
executed body turns = execute_all world (calls world 5 0) 5 frame body (before turns)

-- Each call takes a turn, and the turn comes before the depth.
pub record CallExamples : Type 0 where
  pub last_turn : evaluated (call_get (place 2)) 1 ≡ Gives (value.Int (pos 7)) (touching (0 ∷ []) 0)
  pub no_turn : evaluated (call_get (place 2)) 0 ≡ faults fault.Turns (place 2) (touching (0 ∷ []) 0)
  pub next_without_turn :
      evaluated (Two (place 9) op.Add (call_get (place 2)) (call_get (place 12))) 1 ≡ faults fault.Turns (place 12) (touching (0 ∷ []) 0)
  pub null_before_turn : evaluated (Call (place 2) Null 0 0 NoArg) 0 ≡ faults fault.Null (place 2) (before 0)
  pub deepest : evaluated_at 99 (call_get (place 2)) 1 ≡ Gives (value.Int (pos 7)) (touching (0 ∷ []) 0)
  pub too_deep : evaluated_at 100 (call_get (place 2)) 1 ≡ faults fault.Depth (place 2) (touching (0 ∷ []) 0)
  pub too_deep_without_turn : evaluated_at 100 (call_get (place 2)) 0 ≡ faults fault.Turns (place 2) (touching (0 ∷ []) 0)
  pub deepest_within : evaluated_at 98 (call_sum 1) 2 ≡ Gives (value.Int (pos 1)) (touching (0 ∷ []) 0)
  pub too_deep_within : evaluated_at 98 (call_sum 2) 3 ≡ faults fault.Depth (place 59) (touching (0 ∷ []) 0)
  pub no_result : perform world (calls world 5 0) frame call_idle (before 1) ≡ Gives None (touching (0 ∷ []) 0)
  pub goes_on : executed (one (Perform call_idle)) 1 ≡ Gives (Goes frame) (touching (0 ∷ []) 0)
  pub result_dropped : executed (one (Drop (call_get (place 2)))) 1 ≡ Gives (Goes frame) (touching (0 ∷ []) 0)
  pub return_leaves_the_while : evaluated call_first 3 ≡ Gives (value.Int (pos 4)) (touching (0 ∷ []) 1)
  pub while_without_turn : evaluated call_first 1 ≡ faults fault.Turns (place 16) (touching (0 ∷ []) 0)
  pub recursion : evaluated (call_sum 3) 4 ≡ Gives (value.Int (pos 6)) (touching (0 ∷ []) 0)
  pub recursion_without_turn : evaluated (call_sum 3) 3 ≡ faults fault.Turns (place 59) (touching (0 ∷ []) 0)
  pub recursion_without_end : evaluated (call_sum 9) 5 ≡ faults fault.Turns (place 59) (touching (0 ∷ []) 0)
  pub arguments_fill_slots : evaluated (call_less 9 5) 1 ≡ Gives (value.Int (pos 4)) (touching (0 ∷ []) 0)
  pub argument_before_touch :
      executed (one (Perform (call_put (element (pos 0))))) 1
      ≡ Gives (Goes frame) (record (writing 0 (item_of (pos 10) []) 0) { touched = 1 ∷ 0 ∷ [] })
  pub method_writes :
      executed (two (Perform (call_put (Int (pos 5)))) (Set 3 (call_get (place 2)))) 2
      ≡ Gives (Goes (set_slot frame 3 (value.Int (pos 5)))) (writing 0 (item_of (pos 5) []) 0)

-- Each round takes a turn.
pub record LoopExamples (W : World) (C : Calls) : Type 0 where
  pub three_rounds : execute W C 5 frame count_down (before 3) ≡ Gives (Goes (set_slot frame 3 (value.Int (pos 0)))) (before 0)
  pub turns_left : execute W C 5 frame count_down (before 5) ≡ Gives (Goes (set_slot frame 3 (value.Int (pos 0)))) (before 2)
  pub one_turn_too_few : execute W C 5 frame count_down (before 2) ≡ faults fault.Turns (place 1) (before 0)
  pub without_end : execute W C 5 frame (While (place 1) (Truth true) Nothing) (before 5) ≡ faults fault.Turns (place 1) (before 0)
  pub turn_before_body :
      execute W C 5 frame (While (place 1) (Truth true) (one (Drop (one_by_zero (place 20))))) (before 0) ≡ faults fault.Turns (place 1) (before 0)
  pub no_round :
      (f : Frame) (body : TypedStatements) (w : Work) → execute W C 5 f (While (place 1) (Truth false) body) w ≡ Gives (Goes f) w
  pub condition_faults :
      (f : Frame) (body : TypedStatements) (w : Work) → execute W C 5 f (While (place 1) faulty_truth body) w ≡ faults fault.Zero (place 7) w

-- New objects and instances are numbered in the order in which they are made.
pub record NewExamples (C : Calls) (n turns : ℕ) : Type 0 where
  pub cells_at_first : evaluate world C frame (item_with []) (before turns) ≡ Gives (value.New 0) (making (new_item 0 [] ∷ []) turns)
  pub next_number :
      evaluate world C frame (item_with []) (making (new_box (pos 1) ∷ []) turns)
      ≡ Gives (value.New 1) (making (new_box (pos 1) ∷ new_item 0 [] ∷ []) turns)
  pub set_then_cleared :
      evaluate world C frame (item_with (tweak.Flag 0 true ∷ tweak.Flag 0 false ∷ [])) (before turns)
      ≡ Gives (value.New 0) (making (new_item 0 [] ∷ []) turns)
  pub cleared_then_set :
      evaluate world C frame (item_with (tweak.Flag 0 false ∷ tweak.Flag 0 true ∷ tweak.Flag 1 true ∷ [])) (before turns)
      ≡ Gives (value.New 0) (making (new_item 3 [] ∷ []) turns)
  pub instances_in_order :
      evaluate world C frame (item_with (tweak.Add (place 9) 1 ∷ tweak.Add (place 12) 0 ∷ tweak.Add (place 15) 1 ∷ [])) (before turns)
      ≡ Gives (value.New 0) (making (new_item 0 (tag.Old 1 ∷ tag.Old 0 ∷ []) ∷ []) turns)
  pub one_instance_too_many :
      evaluate world C tagged_frame (item_with add_all) (before turns)
      ≡ faults fault.TagSlots (place 16) (making (new_item 0 (old_tags 0 16) ∷ []) turns)
  pub zeros :
      evaluate world C frame (array_of kind.Ints (pos 2)) (before turns)
      ≡ Gives (value.New 0) (making (new_array kind.Ints (value.Int (pos 0) ∷ value.Int (pos 0) ∷ []) ∷ []) turns)
  pub falses :
      evaluate world C frame (array_of kind.Bools (pos 1)) (before turns)
      ≡ Gives (value.New 0) (making (new_array kind.Bools (value.Bool false ∷ []) ∷ []) turns)
  pub nulls :
      evaluate world C frame (array_of (kind.Objects 1) (pos 1)) (before turns)
      ≡ Gives (value.New 0) (making (new_array (kind.Objects 1) (value.Null ∷ []) ∷ []) turns)
  pub empty :
      evaluate world C frame (array_of kind.Ints (pos 0)) (before turns)
      ≡ Gives (value.New 0) (making (new_array kind.Ints [] ∷ []) turns)
  pub length_below_zero : (w : Work) → evaluate world C frame (array_of kind.Ints (minus 1)) w ≡ faults fault.Size (place 1) w
  pub too_long : (w : Work) → evaluate world C frame (array_of kind.Ints (pos 65537)) w ≡ faults fault.Size (place 1) w
  pub too_many_objects :
      (w : Work) (tweaks : List Tweak) → length w.made ≡ 65536 → evaluate world C frame (item_with tweaks) w ≡ faults fault.Size (place 1) w
  pub too_many_arrays : (w : Work) → length w.made ≡ 65536 → evaluate world C frame (array_of kind.Ints (pos 0)) w ≡ faults fault.Size (place 1) w
  pub too_many_cells :
      (w : Work) → length w.made < 65536 → cells_in w.made ≡ 4194302 → evaluate world C frame (item_with []) w ≡ faults fault.Size (place 1) w
  pub last_room :
      (w : Work)
      → length w.made ≡ 65535
      → cells_in w.made ≡ 4194301
      → evaluate world C frame (item_with []) w ≡ Gives (value.New (length w.made)) (record w { made = w.made ++ new_item 0 [] ∷ [] })
  pub two_instances :
      execute_all world C n frame (two (NewTag (place 1) 0 4) (NewTag (place 1) 2 5)) (before turns)
      ≡ Gives (Goes (set_tag (set_tag frame 0 (tag.New 0)) 2 (tag.New 1))) (record (before turns) { instances = 4 ∷ 5 ∷ [] })
  pub last_instance :
      (w : Work)
      → length w.instances ≡ 65535
      → execute world C n frame (NewTag (place 1) 0 4) w
      ≡ Gives (Goes (set_tag frame 0 (tag.New (length w.instances)))) (record w { instances = w.instances ++ 4 ∷ [] })
  pub too_many_instances :
      (w : Work) → length w.instances ≡ 65536 → execute world C n frame (NewTag (place 1) 0 4) w ≡ faults fault.Size (place 1) w

-- A constructor is a call, after the object is there.
pub record ConstructorExamples : Type 0 where
  pub stores_itself : evaluated (Make (place 1) 1 NoArg []) 1 ≡ Gives (value.New 0) (making (new_knot (value.New 0) ∷ []) 0)
  pub stores_its_argument : evaluated (Make (place 1) 2 (Arg NoArg (Int (pos 5))) []) 1 ≡ Gives (value.New 0) (making (new_box (pos 5) ∷ []) 0)
  pub no_turn : evaluated (Make (place 1) 1 NoArg []) 0 ≡ faults fault.Turns (place 1) (making (new_knot value.Null ∷ []) 0)
  pub too_deep : evaluated_at 100 (Make (place 1) 1 NoArg []) 1 ≡ faults fault.Depth (place 1) (making (new_knot value.Null ∷ []) 0)
  pub braces_first :
      evaluated (Make (place 1) 1 NoArg (tweak.Flag 0 true ∷ [])) 0
      ≡ faults fault.Turns (place 1) (making (record (new_knot value.Null) { flags = 1 } ∷ []) 0)
  pub none_asks_for_no_turn : evaluated (item_with []) 0 ≡ Gives (value.New 0) (making (new_item 0 [] ∷ []) 0)

-- a `taskexit` with these actions
abbrev pub exits : Calls → ℕ → List Change → ℕ → Got Flow
exits C n changes turns = execute world C n frame (Exit changes) (before turns)

-- an invocation that commits nothing
abbrev pub nothing_new : Outcome
nothing_new = record { ran = ran.Commit (record { bodies = []; made = []; tags = []; text = [] }); touched = [] }

-- What a `taskexit` does with instances and flags.
pub record ActionExamples (C : Calls) (n turns : ℕ) : Type 0 where
  pub clear_closes_up : exits C n (change.Clear 0 1 ∷ []) turns ≡ Gives Leaves (rebound 2 (pos 8) (tag.Old 0 ∷ tag.Old 2 ∷ []) turns)
  pub clear_of_none : ending store (exits C n (change.Clear 0 2 ∷ []) turns) ≡ nothing_new
  pub cleared_and_added :
      exits C n (change.Clear 0 0 ∷ change.Add (place 9) 0 0 ∷ []) turns
      ≡ Gives Leaves (rebound 2 (pos 8) (tag.Old 1 ∷ tag.Old 2 ∷ tag.Old 0 ∷ []) turns)
  pub added_and_cleared : ending store (exits C n (change.Add (place 9) 0 2 ∷ change.Clear 0 2 ∷ []) turns) ≡ nothing_new
  pub added_last : exits C n (change.Add (place 9) 0 2 ∷ []) turns ≡ Gives Leaves (rebound 2 (pos 8) (old_tags 0 3 ++ tag.Old 16 ∷ []) turns)
  pub added_again : exits C n (change.Add (place 9) 0 1 ∷ []) turns ≡ Gives Leaves (before turns)
  pub one_too_many : exits C n (change.Add (place 9) 1 2 ∷ []) turns ≡ faults fault.TagSlots (place 9) (before turns)
  pub added_again_among_16 : exits C n (change.Add (place 9) 1 0 ∷ []) turns ≡ Gives Leaves (before turns)
  pub room_by_clear :
      exits C n (change.Clear 1 0 ∷ change.Add (place 9) 1 2 ∷ []) turns ≡ Gives Leaves (rebound 3 (pos 9) (old_tags 1 16) turns)
  pub flags_in_order : ending store (exits C n (change.Flag 0 1 true ∷ change.Flag 0 1 false ∷ []) turns) ≡ nothing_new
  pub second_flag :
      exits C n (change.Flag 0 0 false ∷ change.Flag 0 1 true ∷ []) turns
      ≡ Gives Leaves (record (before turns) { changed = record { id = 2; body = record (item_of (pos 8) (old_tags 0 3)) { flags = 2 } } ∷ [] })
  pub leaves_the_loop :
      execute_all world C 5 frame (two (While (place 1) (Truth true) (one (Exit []))) (Print (place 9) (TextPart (codes "x") ∷ []))) (before 5)
      ≡ Gives Leaves (before 4)
  pub leaves_each_block :
      execute_all world C 5 frame (two (If (Truth true) (one (Block (one (Exit [])))) Nothing) (Drop (one_by_zero (place 9)))) (before turns)
      ≡ Gives Leaves (before turns)

-- a `print` of these
abbrev pub prints : Calls → ℕ → List TypedPart → ℕ → Got Flow
prints C n parts turns = execute world C n frame (Print (place 1) parts) (before turns)

-- What is printed, in order. Where a later item faults the text so far is left in the work, and not committed.
pub record PrintExamples (C : Calls) (n turns : ℕ) : Type 0 where
  pub in_order :
      prints C n (NumberPart (Int (pos 12)) ∷ NumberPart (Int (minus 3)) ∷ TextPart (codes ", ") ∷ TruthPart (Truth true) ∷ TruthPart (Truth false) ∷ [])
      turns
      ≡ Gives (Goes frame) (printing (codes "12-3, truefalse") turns)
  pub zero_and_least :
      prints C n (NumberPart (Int (pos 0)) ∷ NumberPart (Int least) ∷ []) turns ≡ Gives (Goes frame) (printing (codes "0-2147483648") turns)
  pub one_by_one :
      execute_all world C n frame (two (Print (place 1) (TextPart (codes "a") ∷ [])) (Print (place 9) (TextPart (codes "b") ∷ []))) (before turns)
      ≡ Gives (Goes frame) (printing (codes "ab") turns)
  pub up_to_a_fault :
      prints C n (NumberPart (Int (pos 12)) ∷ NumberPart (one_by_zero (place 15)) ∷ TextPart (codes "x") ∷ []) turns
      ≡ faults fault.Zero (place 15) (printing (codes "12") turns)
  pub not_committed :
      ending store (prints C n (NumberPart (Int (pos 12)) ∷ NumberPart (one_by_zero (place 15)) ∷ []) turns)
      ≡ record { ran = ran.Faulted (record { kind = fault.Zero; at = place 15 }); touched = [] }

pub record EvaluationExamples : Type 0 where
  pub numbers : NumberExamples
  pub order : (W : World) (C : Calls) (n : ℕ) (f : Frame) (w : Work) → OrderExamples W C n f w
  pub objects : (C : Calls) (n turns : ℕ) → ObjectExamples C n turns
  pub calls : CallExamples
  pub loops : (W : World) (C : Calls) → LoopExamples W C
  pub new : (C : Calls) (n turns : ℕ) → NewExamples C n turns
  pub constructors : ConstructorExamples
  pub actions : (C : Calls) (n turns : ℕ) → ActionExamples C n turns
  pub prints : (C : Calls) (n turns : ℕ) → PrintExamples C n turns

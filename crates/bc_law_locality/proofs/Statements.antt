-- Statements, loops, calls and tasks over two look-ups.
use Rattle.std.proofs.Common.{ℕ, zero, suc, ◌+◌, List, [], ◌∷◌, refl}
use Rattle.std.specs.Prelude.{slice_get, Some, None}
use Rattle.std.specs.Fmt.{signed_decimal}
use Rattle.bc_data.specs.Typed.{TypedExpression, Int, Truth, Null, Local, Neg, Not, Two, FieldOf, Length, Elem, Call, Make, Array, TypedPart, TextPart, NumberPart, TruthPart, TypedStatement, Set, NewTag, SetField, SetElem, Drop, Perform, If, While, Return, Print, Assert, Exit, Block, TypedStatements, Nothing, Then, TypedClass}
use Rattle.bc_data.specs.declared.program.Change.{Change}
use Rattle.bc_data.specs.declared.program.Change.TheVariants as change
use Rattle.bc_data.specs.declared.run.FaultKind.TheVariants as fault
use Rattle.bc_data.specs.declared.run.Place.{Place}
use Rattle.bc_data.specs.declared.run.Value.{Value}
use Rattle.bc_data.specs.declared.run.Value.TheVariants as value
use Rattle.bc_mean.specs.Work.{Work, Got}
use Rattle.bc_mean.specs.Evaluate.{Frame, Calls}
use Rattle.bc_mean.specs.Execute.{Flow, Goes, Returns, Leaves, text_of_truth, say_number, say_truth, print_part, print_parts, act, act_all, perform, goes_on, if_goes, round, loop, execute, execute_all, returned, method_frame, calls}
use Rattle.bc_law_locality.proofs.Steps.{bind_tied, choose_tied, enter_tied, known_then, make_instance_tied, parameter_then, reach_then, say_tied, set_flag_tied, turn_tied, unbind_tied, write_tied}
use Rattle.bc_law_locality.proofs.Expressions.{CallsTied, call_on_tied, evaluate_all_tied, evaluate_tied, index_then, left_world, right_world}
use Rattle.bc_law_locality.proofs.Tied.{Looks, Tied, tied_fault, tied_same, tied_then, tied_wrong}

say_number_tied : {K : Looks} (at : Place) (x : Value) (w : Work) → Tied K w (say_number at x w) (say_number at x w)
say_number_tied at (value.Int n) w = say_tied at (signed_decimal n) w
say_number_tied at (value.Bool b) w = tied_wrong w
say_number_tied at value.Null w = tied_wrong w
say_number_tied at (value.Old id) w = tied_wrong w
say_number_tied at (value.New n) w = tied_wrong w

say_truth_tied : {K : Looks} (at : Place) (x : Value) (w : Work) → Tied K w (say_truth at x w) (say_truth at x w)
say_truth_tied at (value.Bool b) w = say_tied at (text_of_truth b) w
say_truth_tied at (value.Int n) w = tied_wrong w
say_truth_tied at value.Null w = tied_wrong w
say_truth_tied at (value.Old id) w = tied_wrong w
say_truth_tied at (value.New n) w = tied_wrong w

goes_on_tied : {A : Type 0} {K : Looks} {w : Work} {g h : Got A} (f : Frame) → Tied K w g h → Tied K w (goes_on f g) (goes_on f h)
goes_on_tied f t = tied_then t (λ x v. tied_same v _)

if_goes_tied : {K : Looks} (go to : Frame → Work → Got Flow) → ((f : Frame) (w : Work) → Tied K w (go f w) (to f w)) → (flow : Flow) (w : Work) → Tied K w (if_goes go flow w) (if_goes to flow w)
if_goes_tied go to t (Goes f) w = t f w
if_goes_tied go to t (Returns result) w = tied_same w _
if_goes_tied go to t Leaves w = tied_same w _

returned_tied : {K : Looks} (flow : Flow) (w : Work) → Tied K w (returned flow w) (returned flow w)
returned_tied (Goes f) w = tied_same w _
returned_tied (Returns result) w = tied_same w _
returned_tied Leaves w = tied_wrong w

-- a loop, whose test and body are so tied
module _ (K : Looks) (at : Place) (test right_test : Frame → Work → Got Value) (body right_body : Frame → Work → Got Flow) (t : (f : Frame) (w : Work) → Tied K w (test f w) (right_test f w)) (b : (f : Frame) (w : Work) → Tied K w (body f w) (right_body f w)) where
  round_tied : (again right_again : Frame → Work → Got Flow) → ((f : Frame) (w : Work) → Tied K w (again f w) (right_again f w)) → (f : Frame) (w : Work) → Tied K w (round at test body again f w) (round at right_test right_body right_again f w)
  round_tied again right_again a f w =
      tied_then (t f w) (λ x v.
      choose_tied x _ _ _ _ v
      (tied_then (turn_tied at v) (λ y u. tied_then (b f u) (λ flow s. if_goes_tied again right_again a flow s)))
      (tied_same v _))

  pub loop_tied : (n : ℕ) (f : Frame) (w : Work) → Tied K w (loop n at test body f w) (loop n at right_test right_body f w)
  loop_tied zero f w = round_tied _ _ (λ g v. tied_wrong v) f w
  loop_tied (suc n) f w = round_tied (loop n at test body) (loop n at right_test right_body) (loop_tied n) f w

module _ (K : Looks) (classes : List TypedClass) where
  act_tied : (f : Frame) (c : Change) (w : Work) → Tied K w (act (left_world K classes) f c w) (act (right_world K classes) f c w)
  act_tied f (change.Flag p flag b) w = parameter_then K p (slice_get K.objects p) w _ _ refl (λ v o i. set_flag_tied o flag b v i)
  act_tied f (change.Add at p variable) w =
      parameter_then K p (slice_get K.objects p) w _ _ refl (λ v o i. known_then (slice_get f.tags variable) _ _ (λ t. bind_tied at o t v i))
  act_tied f (change.Clear p variable) w =
      parameter_then K p (slice_get K.objects p) w _ _ refl (λ v o i. known_then (slice_get f.tags variable) _ _ (λ t. unbind_tied o t v i))

  act_all_tied : (f : Frame) (cs : List Change) (w : Work) → Tied K w (act_all (left_world K classes) f cs w) (act_all (right_world K classes) f cs w)
  act_all_tied f [] w = tied_same w tt
  act_all_tied f (c ∷ cs) w = tied_then (act_tied f c w) (λ x v. act_all_tied f cs v)

  module _ (C D : Calls) (c : CallsTied K C D) where
    print_part_tied : (f : Frame) (at : Place) (p : TypedPart) (w : Work) → Tied K w (print_part (left_world K classes) C f at p w) (print_part (right_world K classes) D f at p w)
    print_part_tied f at (TextPart bytes) w = say_tied at bytes w
    print_part_tied f at (NumberPart e) w = tied_then (evaluate_tied K classes C D c f e w) (say_number_tied at)
    print_part_tied f at (TruthPart e) w = tied_then (evaluate_tied K classes C D c f e w) (say_truth_tied at)

    print_parts_tied : (f : Frame) (at : Place) (ps : List TypedPart) (w : Work) → Tied K w (print_parts (left_world K classes) C f at ps w) (print_parts (right_world K classes) D f at ps w)
    print_parts_tied f at [] w = tied_same w tt
    print_parts_tied f at (p ∷ ps) w = tied_then (print_part_tied f at p w) (λ x v. print_parts_tied f at ps v)

    perform_tied : (f : Frame) (e : TypedExpression) (w : Work) → Tied K w (perform (left_world K classes) C f e w) (perform (right_world K classes) D f e w)
    perform_tied f (Call at object class n args) w =
        tied_then (evaluate_tied K classes C D c f object w) (λ x v.
        tied_then (evaluate_all_tied K classes C D c f args v) (λ xs u. call_on_tied K classes C D c at class n x xs u))
    perform_tied f (Int n) w = tied_wrong w
    perform_tied f (Truth b) w = tied_wrong w
    perform_tied f Null w = tied_wrong w
    perform_tied f (Local slot) w = tied_wrong w
    perform_tied f (Neg e) w = tied_wrong w
    perform_tied f (Not e) w = tied_wrong w
    perform_tied f (Two at o a b) w = tied_wrong w
    perform_tied f (FieldOf at object field) w = tied_wrong w
    perform_tied f (Length at array) w = tied_wrong w
    perform_tied f (Elem at array index) w = tied_wrong w
    perform_tied f (Make at class args tweaks) w = tied_wrong w
    perform_tied f (Array at k size) w = tied_wrong w

    module _ (n : ℕ) where
      mutual
        pub execute_tied : (f : Frame) (s : TypedStatement) (w : Work) → Tied K w (execute (left_world K classes) C n f s w) (execute (right_world K classes) D n f s w)
        execute_tied f (Set slot e) w = tied_then (evaluate_tied K classes C D c f e w) (λ x v. tied_same v _)
        execute_tied f (NewTag at variable tag_type) w = tied_then (make_instance_tied at tag_type w) (λ i v. tied_same v _)
        execute_tied f (SetField at object field e) w =
            tied_then (evaluate_tied K classes C D c f object w) (λ x v.
            tied_then (evaluate_tied K classes C D c f e v) (λ y u.
            reach_then at x u _ _ (λ t o i. goes_on_tied f (write_tied o.object _ t i))))
        execute_tied f (SetElem at array index e) w =
            tied_then (evaluate_tied K classes C D c f array w) (λ x v.
            tied_then (evaluate_tied K classes C D c f index v) (λ j u.
            tied_then (evaluate_tied K classes C D c f e u) (λ y t.
            reach_then at x t _ _ (λ s o i.
            index_then at o.body j _ _ (λ k. goes_on_tied f (write_tied o.object _ s i))))))
        execute_tied f (Drop e) w = goes_on_tied f (evaluate_tied K classes C D c f e w)
        execute_tied f (Perform e) w = goes_on_tied f (perform_tied f e w)
        execute_tied f (If test body other) w =
            tied_then (evaluate_tied K classes C D c f test w) (λ x v.
            choose_tied x _ _ _ _ v (execute_all_tied f body v) (execute_all_tied f other v))
        execute_tied f (While at test body) w =
            loop_tied K at _ _ _ _ (λ g v. evaluate_tied K classes C D c g test v) (λ g v. execute_all_tied g body v) n f w
        execute_tied f (Return None) w = tied_same w _
        execute_tied f (Return (Some e)) w = tied_then (evaluate_tied K classes C D c f e w) (λ x v. tied_same v _)
        execute_tied f (Print at parts) w = goes_on_tied f (print_parts_tied f at parts w)
        execute_tied f (Assert at e) w =
            tied_then (evaluate_tied K classes C D c f e w) (λ x v.
            goes_on_tied f (choose_tied x _ _ _ _ v (tied_same v tt) (tied_fault v fault.Assert at)))
        execute_tied f (Exit changes) w = tied_then (act_all_tied f changes w) (λ x v. tied_same v _)
        execute_tied f (Block body) w = execute_all_tied f body w

        pub execute_all_tied : (f : Frame) (s : TypedStatements) (w : Work) → Tied K w (execute_all (left_world K classes) C n f s w) (execute_all (right_world K classes) D n f s w)
        execute_all_tied f Nothing w = tied_same w _
        execute_all_tied f (Then front last) w =
            tied_then (execute_all_tied f front w) (λ flow v. if_goes_tied _ _ (λ g u. execute_tied g last u) flow v)

  pub calls_tied : (n depth : ℕ) → CallsTied K (calls (left_world K classes) n depth) (calls (right_world K classes) n depth)
  calls_tied zero depth at m xs w = tied_then (enter_tied at depth w) (λ x v. tied_wrong v)
  calls_tied (suc n) depth at m xs w =
      tied_then (enter_tied at depth w) (λ x v.
      tied_then (execute_all_tied (calls (left_world K classes) n (depth + 1)) (calls (right_world K classes) n (depth + 1)) (calls_tied n (depth + 1)) n (method_frame m xs) m.body v) returned_tied)

  -- statements, with so many calls and rounds left and so many calls around them
  pub statements_tied : (n depth rounds : ℕ) (f : Frame) (s : TypedStatements) (w : Work) → Tied K w (execute_all (left_world K classes) (calls (left_world K classes) n depth) rounds f s w) (execute_all (right_world K classes) (calls (right_world K classes) n depth) rounds f s w)
  statements_tied n depth rounds f s w = execute_all_tied _ _ (calls_tied n depth) rounds f s w

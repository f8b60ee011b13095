-- Statements, loops, calls and tasks keep each newest copy like the body that the look-up gives.
use Rattle.std.proofs.Common.{ℕ, zero, suc, ◌+◌, List, [], ◌∷◌}
use Rattle.std.specs.Prelude.{slice_get, Some, None}
use Rattle.std.specs.Fmt.{signed_decimal}
use Rattle.bc_data.specs.Typed.{TypedExpression, Int, Truth, Null, Local, Neg, Not, Two, FieldOf, Length, Elem, Call, Make, Array, TypedPart, TextPart, NumberPart, TruthPart, TypedStatement, Set, NewTag, SetField, SetElem, Drop, Perform, If, While, Return, Print, Assert, Exit, Block, TypedStatements, Nothing, Then}
use Rattle.bc_data.specs.declared.program.Change.{Change}
use Rattle.bc_data.specs.declared.program.Change.TheVariants as change
use Rattle.bc_data.specs.declared.run.FaultKind.TheVariants as fault
use Rattle.bc_data.specs.declared.run.Place.{Place}
use Rattle.bc_data.specs.declared.run.Value.{Value}
use Rattle.bc_data.specs.declared.run.Value.TheVariants as value
use Rattle.bc_mean.specs.Work.{Look, Work, Got}
use Rattle.bc_mean.specs.Evaluate.{World, Frame, Calls}
use Rattle.bc_mean.specs.Execute.{Flow, Goes, Returns, Leaves, text_of_truth, say_number, say_truth, print_part, print_parts, act, act_all, perform, goes_on, if_goes, round, loop, execute, execute_all, returned, method_frame, calls}
use Rattle.bc_law_room.proofs.Steps.{Keeps, bind_keeps, choose_keeps, enter_keeps, keeps_fault, keeps_same, keeps_then, keeps_wrong, known_then, make_instance_keeps, parameter_then, reach_then, say_keeps, set_flag_keeps, turn_keeps, unbind_keeps, write_cell_keeps}
use Rattle.bc_law_room.proofs.Expressions.{CallsKeep, call_on_keeps, evaluate_all_keeps, evaluate_keeps, index_then}

say_number_keeps : {L : Look} (at : Place) (x : Value) (w : Work) → Keeps L w (say_number at x w)
say_number_keeps at (value.Int n) w = say_keeps at (signed_decimal n) w
say_number_keeps at (value.Bool b) w = keeps_wrong w
say_number_keeps at value.Null w = keeps_wrong w
say_number_keeps at (value.Old id) w = keeps_wrong w
say_number_keeps at (value.New n) w = keeps_wrong w

say_truth_keeps : {L : Look} (at : Place) (x : Value) (w : Work) → Keeps L w (say_truth at x w)
say_truth_keeps at (value.Bool b) w = say_keeps at (text_of_truth b) w
say_truth_keeps at (value.Int n) w = keeps_wrong w
say_truth_keeps at value.Null w = keeps_wrong w
say_truth_keeps at (value.Old id) w = keeps_wrong w
say_truth_keeps at (value.New n) w = keeps_wrong w

goes_on_keeps : {A : Type 0} {L : Look} {w : Work} {g : Got A} (f : Frame) → Keeps L w g → Keeps L w (goes_on f g)
goes_on_keeps f t = keeps_then t (λ x v. keeps_same v _)

if_goes_keeps : {L : Look} (go : Frame → Work → Got Flow) → ((f : Frame) (w : Work) → Keeps L w (go f w)) → (flow : Flow) (w : Work) → Keeps L w (if_goes go flow w)
if_goes_keeps go t (Goes f) w = t f w
if_goes_keeps go t (Returns result) w = keeps_same w _
if_goes_keeps go t Leaves w = keeps_same w _

returned_keeps : {L : Look} (flow : Flow) (w : Work) → Keeps L w (returned flow w)
returned_keeps (Goes f) w = keeps_same w _
returned_keeps (Returns result) w = keeps_same w _
returned_keeps Leaves w = keeps_wrong w

-- a loop whose test and body do so
module _ (L : Look) (at : Place) (test : Frame → Work → Got Value) (body : Frame → Work → Got Flow) (t : (f : Frame) (w : Work) → Keeps L w (test f w)) (b : (f : Frame) (w : Work) → Keeps L w (body f w)) where
  round_keeps : (again : Frame → Work → Got Flow) → ((f : Frame) (w : Work) → Keeps L w (again f w)) → (f : Frame) (w : Work) → Keeps L w (round at test body again f w)
  round_keeps again a f w =
      keeps_then (t f w) (λ x v.
      choose_keeps x _ _ v
      (keeps_then (turn_keeps at v) (λ y u. keeps_then (b f u) (λ flow s. if_goes_keeps again a flow s)))
      (keeps_same v _))

  pub loop_keeps : (n : ℕ) (f : Frame) (w : Work) → Keeps L w (loop n at test body f w)
  loop_keeps zero f w = round_keeps _ (λ g v. keeps_wrong v) f w
  loop_keeps (suc n) f w = round_keeps (loop n at test body) (loop_keeps n) f w

module _ (W : World) where
  act_keeps : (f : Frame) (c : Change) (w : Work) → Keeps W.look w (act W f c w)
  act_keeps f (change.Flag p flag b) w = parameter_then (slice_get W.objects p) w _ (λ o s. set_flag_keeps o flag b w s)
  act_keeps f (change.Add at p variable) w =
      parameter_then (slice_get W.objects p) w _ (λ o s. known_then (slice_get f.tags variable) _ (λ t. bind_keeps at o t w s))
  act_keeps f (change.Clear p variable) w =
      parameter_then (slice_get W.objects p) w _ (λ o s. known_then (slice_get f.tags variable) _ (λ t. unbind_keeps o t w s))

  act_all_keeps : (f : Frame) (cs : List Change) (w : Work) → Keeps W.look w (act_all W f cs w)
  act_all_keeps f [] w = keeps_same w tt
  act_all_keeps f (c ∷ cs) w = keeps_then (act_keeps f c w) (λ x v. act_all_keeps f cs v)

  module _ (C : Calls) (c : CallsKeep W.look C) where
    print_part_keeps : (f : Frame) (at : Place) (p : TypedPart) (w : Work) → Keeps W.look w (print_part W C f at p w)
    print_part_keeps f at (TextPart bytes) w = say_keeps at bytes w
    print_part_keeps f at (NumberPart e) w = keeps_then (evaluate_keeps W C c f e w) (say_number_keeps at)
    print_part_keeps f at (TruthPart e) w = keeps_then (evaluate_keeps W C c f e w) (say_truth_keeps at)

    print_parts_keeps : (f : Frame) (at : Place) (ps : List TypedPart) (w : Work) → Keeps W.look w (print_parts W C f at ps w)
    print_parts_keeps f at [] w = keeps_same w tt
    print_parts_keeps f at (p ∷ ps) w = keeps_then (print_part_keeps f at p w) (λ x v. print_parts_keeps f at ps v)

    perform_keeps : (f : Frame) (e : TypedExpression) (w : Work) → Keeps W.look w (perform W C f e w)
    perform_keeps f (Call at object class n args) w =
        keeps_then (evaluate_keeps W C c f object w) (λ x v.
        keeps_then (evaluate_all_keeps W C c f args v) (λ xs u. call_on_keeps W C c at class n x xs u))
    perform_keeps f (Int n) w = keeps_wrong w
    perform_keeps f (Truth b) w = keeps_wrong w
    perform_keeps f Null w = keeps_wrong w
    perform_keeps f (Local slot) w = keeps_wrong w
    perform_keeps f (Neg e) w = keeps_wrong w
    perform_keeps f (Not e) w = keeps_wrong w
    perform_keeps f (Two at o a b) w = keeps_wrong w
    perform_keeps f (FieldOf at object field) w = keeps_wrong w
    perform_keeps f (Length at array) w = keeps_wrong w
    perform_keeps f (Elem at array index) w = keeps_wrong w
    perform_keeps f (Make at class args tweaks) w = keeps_wrong w
    perform_keeps f (Array at k size) w = keeps_wrong w

    module _ (n : ℕ) where
      mutual
        pub execute_keeps : (f : Frame) (s : TypedStatement) (w : Work) → Keeps W.look w (execute W C n f s w)
        execute_keeps f (Set slot e) w = keeps_then (evaluate_keeps W C c f e w) (λ x v. keeps_same v _)
        execute_keeps f (NewTag at variable tag_type) w = keeps_then (make_instance_keeps at tag_type w) (λ i v. keeps_same v _)
        execute_keeps f (SetField at object field e) w =
            keeps_then (evaluate_keeps W C c f object w) (λ x v.
            keeps_then (evaluate_keeps W C c f e v) (λ y u.
            reach_then at x u _ (λ t o s. goes_on_keeps f (write_cell_keeps o field y t s))))
        execute_keeps f (SetElem at array index e) w =
            keeps_then (evaluate_keeps W C c f array w) (λ x v.
            keeps_then (evaluate_keeps W C c f index v) (λ j u.
            keeps_then (evaluate_keeps W C c f e u) (λ y t.
            reach_then at x t _ (λ r o s.
            index_then at o.body j _ (λ k. goes_on_keeps f (write_cell_keeps o k y r s))))))
        execute_keeps f (Drop e) w = goes_on_keeps f (evaluate_keeps W C c f e w)
        execute_keeps f (Perform e) w = goes_on_keeps f (perform_keeps f e w)
        execute_keeps f (If test body other) w =
            keeps_then (evaluate_keeps W C c f test w) (λ x v.
            choose_keeps x _ _ v (execute_all_keeps f body v) (execute_all_keeps f other v))
        execute_keeps f (While at test body) w =
            loop_keeps W.look at _ _ (λ g v. evaluate_keeps W C c g test v) (λ g v. execute_all_keeps g body v) n f w
        execute_keeps f (Return None) w = keeps_same w _
        execute_keeps f (Return (Some e)) w = keeps_then (evaluate_keeps W C c f e w) (λ x v. keeps_same v _)
        execute_keeps f (Print at parts) w = goes_on_keeps f (print_parts_keeps f at parts w)
        execute_keeps f (Assert at e) w =
            keeps_then (evaluate_keeps W C c f e w) (λ x v.
            goes_on_keeps f (choose_keeps x _ _ v (keeps_same v tt) (keeps_fault v fault.Assert at)))
        execute_keeps f (Exit changes) w = keeps_then (act_all_keeps f changes w) (λ x v. keeps_same v _)
        execute_keeps f (Block body) w = execute_all_keeps f body w

        pub execute_all_keeps : (f : Frame) (s : TypedStatements) (w : Work) → Keeps W.look w (execute_all W C n f s w)
        execute_all_keeps f Nothing w = keeps_same w _
        execute_all_keeps f (Then front last) w =
            keeps_then (execute_all_keeps f front w) (λ flow v. if_goes_keeps _ (λ g u. execute_keeps g last u) flow v)

  calls_keep : (n depth : ℕ) → CallsKeep W.look (calls W n depth)
  calls_keep zero depth at m xs w = keeps_then (enter_keeps at depth w) (λ x v. keeps_wrong v)
  calls_keep (suc n) depth at m xs w =
      keeps_then (enter_keeps at depth w) (λ x v.
      keeps_then (execute_all_keeps (calls W n (depth + 1)) (calls_keep n (depth + 1)) n (method_frame m xs) m.body v) returned_keeps)

  -- statements, with so many calls and rounds left and so many calls around them
  pub statements_keep : (n depth rounds : ℕ) (f : Frame) (s : TypedStatements) (w : Work) → Keeps W.look w (execute_all W (calls W n depth) rounds f s w)
  statements_keep n depth rounds f s w = execute_all_keeps _ (calls_keep n depth) rounds f s w

-- The rules of the instructions on objects, where the top of the stack is known.
use Rattle.std.proofs.Common.{◌≡◌, ℕ, Bool, List, ◌∷◌, length, refl, ◌∙◌, ap}
use Rattle.std.specs.Prelude.{pos, slice_get}
use Rattle.bc_data.specs.declared.run.Kind.{Kind}
use Rattle.bc_data.specs.declared.run.Place.{Place}
use Rattle.bc_data.specs.declared.run.Value.{Value}
use Rattle.bc_data.specs.declared.run.Value.TheVariants as value
use Rattle.bc_mean.specs.Work.{Work, Got, Gives, Stops, Reached, and_then, known, reach, set_flag, bind, make}
use Rattle.bc_mean.specs.Evaluate.{index_in, make_array}
use Rattle.bc_mean.specs.Execute.{write_cell}
use Rattle.bc_code.specs.declared.code.Code.{Code}
use Rattle.bc_code.specs.declared.code.Instruction.TheVariants as instruction
use Rattle.bc_code.specs.Instructions.{Reads, State, Did, goes, new_body, new_object, next, on_one, on_two, on_three, rule}

goes_map : {A B : Type 0} (g : Got A) (f : A → B) (k : B → Work → Did) → goes g (λ x w. k (f x) w) ≡ goes (and_then g (λ x w. Gives (f x) w)) k
goes_map (Gives x w) f k = refl
goes_map (Stops h w) f k = refl

module _ (R : Reads) (code : Code) (p : Place) (s : State) where
  pub field_rule : (f : ℕ) (x : Value) (st : List Value) → s.stack ≡ x ∷ st
      → rule R code p (instruction.Field f) s ≡ goes (and_then (reach R.look p x s.work) (λ o w. known (slice_get o.body.cells f) w)) (λ y v. next s (y ∷ st) v)
  field_rule f x st e = ap (λ z. on_one z (λ x st. goes (and_then (reach R.look p x s.work) (λ o w. known (slice_get o.body.cells f) w)) (λ y v. next s (y ∷ st) v))) e

  pub set_field_rule : (f : ℕ) (x y : Value) (st : List Value) → s.stack ≡ y ∷ x ∷ st
      → rule R code p (instruction.SetField f) s ≡ goes (and_then (reach R.look p x s.work) (λ o w. write_cell o f y w)) (λ _ v. next s st v)
  set_field_rule f x y st e = ap (λ z. on_two z (λ x y st. goes (and_then (reach R.look p x s.work) (λ o w. write_cell o f y w)) (λ _ v. next s st v))) e

  pub length_rule : (x : Value) (st : List Value) → s.stack ≡ x ∷ st
      → rule R code p instruction.Length s ≡ goes (and_then (reach R.look p x s.work) (λ o w. Gives (value.Int (pos (length o.body.cells))) w)) (λ y v. next s (y ∷ st) v)
  length_rule x st e =
      ap (λ z. on_one z (λ x st. goes (reach R.look p x s.work) (λ o w. next s (value.Int (pos (length o.body.cells)) ∷ st) w))) e
      ∙ goes_map (reach R.look p x s.work) (λ (o : Reached). value.Int (pos (length o.body.cells))) (λ y v. next s (y ∷ st) v)

  pub elem_rule : (x i : Value) (st : List Value) → s.stack ≡ i ∷ x ∷ st
      → rule R code p instruction.Elem s
      ≡ goes (and_then (reach R.look p x s.work) (λ o w. and_then (index_in p o.body i w) (λ n v. known (slice_get o.body.cells n) v))) (λ y u. next s (y ∷ st) u)
  elem_rule x i st e =
      ap (λ z. on_two z (λ x i st. goes (and_then (reach R.look p x s.work) (λ o w. and_then (index_in p o.body i w) (λ n v. known (slice_get o.body.cells n) v))) (λ y u. next s (y ∷ st) u))) e

  pub set_elem_rule : (x i y : Value) (st : List Value) → s.stack ≡ y ∷ i ∷ x ∷ st
      → rule R code p instruction.SetElem s
      ≡ goes (and_then (reach R.look p x s.work) (λ o w. and_then (index_in p o.body i w) (λ n v. write_cell o n y v))) (λ _ u. next s st u)
  set_elem_rule x i y st e =
      ap (λ z. on_three z (λ x i y st. goes (and_then (reach R.look p x s.work) (λ o w. and_then (index_in p o.body i w) (λ n v. write_cell o n y v))) (λ _ u. next s st u))) e

  pub new_object_rule : (c : ℕ)
      → rule R code p (instruction.NewObject c) s
      ≡ goes (and_then (and_then (known (slice_get code.classes c) s.work) (λ k w. make p (new_body c k) w)) (λ n w. Gives (value.New n) w)) (λ x v. next s (x ∷ s.stack) v)
  new_object_rule c = goes_map (and_then (known (slice_get code.classes c) s.work) (λ k w. make p (new_body c k) w)) (λ n. value.New n) (λ x v. next s (x ∷ s.stack) v)

  pub new_array_rule : (k : Kind) (n : Value) (st : List Value) → s.stack ≡ n ∷ st
      → rule R code p (instruction.NewArray k) s ≡ goes (make_array p k n s.work) (λ x w. next s (x ∷ st) w)
  new_array_rule k n st e = ap (λ z. on_one z (λ n st. goes (make_array p k n s.work) (λ x w. next s (x ∷ st) w))) e

  pub set_flag_rule : (f : ℕ) (b : Bool) (x : Value) (st : List Value) → s.stack ≡ x ∷ st
      → rule R code p (instruction.SetFlag f b) s ≡ goes (and_then (new_object x s.work) (λ o w. set_flag o f b w)) (λ _ v. next s s.stack v)
  set_flag_rule f b x st e = ap (λ z. on_one z (λ x st. goes (and_then (new_object x s.work) (λ o w. set_flag o f b w)) (λ _ v. next s s.stack v))) e

  pub add_tag_rule : (variable : ℕ) (x : Value) (st : List Value) → s.stack ≡ x ∷ st
      → rule R code p (instruction.AddTag variable) s
      ≡ goes (and_then (new_object x s.work) (λ o w. and_then (known (slice_get s.current.frame.tags variable) w) (λ t v. bind p o t v))) (λ _ u. next s s.stack u)
  add_tag_rule variable x st e =
      ap (λ z. on_one z (λ x st. goes (and_then (new_object x s.work) (λ o w. and_then (known (slice_get s.current.frame.tags variable) w) (λ t v. bind p o t v))) (λ _ u. next s s.stack u))) e

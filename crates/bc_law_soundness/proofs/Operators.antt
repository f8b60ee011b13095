-- Operators on values of their shapes, and indices.
use Rattle.std.proofs.Common.{◌≡◌, ℕ, ℤ, pos, negsuc, ◌+ℤ◌, ◌-ℤ◌, ◌*ℤ◌, neg_ℤ, Bool, true, false, not, Option, Some, None, slice_get, if◌then◌else◌, int_lt, int_le, int_div, int_rem, refl, subst}
use Rattle.std.specs.Int.{w32}
use Rattle.std.specs.Prelude.{option_and_then}
use Rattle.std.proofs.lemmas.Int.{SFits-int_wrap}
use Rattle.bc_data.specs.declared.program.Op.{Op}
use Rattle.bc_data.specs.declared.program.Op.TheVariants as op
use Rattle.bc_data.specs.declared.program.Shape.{Shape}
use Rattle.bc_data.specs.declared.program.Shape.TheVariants as shape
use Rattle.bc_data.specs.declared.run.Body.{Body}
use Rattle.bc_data.specs.declared.run.FaultKind.TheVariants as fault
use Rattle.bc_data.specs.declared.run.Place.{Place}
use Rattle.bc_data.specs.declared.run.Value.{Value}
use Rattle.bc_data.specs.declared.run.Value.TheVariants as value
use Rattle.bc_data.specs.Shapes.{Takes, result_shape}
use Rattle.bc_data.specs.Typed.{TypedProgram}
use Rattle.bc_mean.specs.declared.plain.Plain.{Plain}
use Rattle.bc_mean.specs.Store.{IsInt, IsBool}
use Rattle.bc_mean.specs.Values.{wrapped, arithmetic, divides_by_zero, same_value}
use Rattle.bc_mean.specs.Work.{Work, Got, Gives, and_then, faults, known}
use Rattle.bc_mean.specs.Evaluate.{negate, invert, calculate, operate, within, index_in}
use Rattle.bc_law_soundness.specs.Fitting.{Shaped, FitsWork, Well}
use Rattle.bc_law_soundness.proofs.Steps.{faulted, stays_here, and_well, known_well, choose_well}

-- a value of this shape
abbrev pub IsOf : Plain → Shape → Work → Value → Type 0
IsOf S sh w x = Shaped S w sh x

module _ (P : TypedProgram) (S : Plain) where
  pub negate_well : (w : Work) (x : Value) → FitsWork P S w → IsInt x → Well P S w (IsOf S shape.Int) (negate x w)
  negate_well w (value.Int n) h q = stays_here P S w (IsOf S shape.Int) (wrapped (neg_ℤ n)) h (SFits-int_wrap w32 (neg_ℤ n))
  negate_well w (value.Bool b) h q = absurd q
  negate_well w value.Null h q = absurd q
  negate_well w (value.Old id) h q = absurd q
  negate_well w (value.New n) h q = absurd q

  pub invert_well : (w : Work) (x : Value) → FitsWork P S w → IsBool x → Well P S w (IsOf S shape.Bool) (invert x w)
  invert_well w (value.Bool b) h q = stays_here P S w (IsOf S shape.Bool) (value.Bool (not b)) h tt
  invert_well w (value.Int n) h q = absurd q
  invert_well w value.Null h q = absurd q
  invert_well w (value.Old id) h q = absurd q
  invert_well w (value.New n) h q = absurd q

  -- an operator that gives a value of its result's shape for all numbers
  abbrev Computes : Op → Type 0
  Computes o = (w : Work) (a b : ℤ) → (r : Value) × (arithmetic o a b ≡ Some r) × Shaped S w (result_shape o) r

  calculate_well : (w : Work) (at : Place) (o : Op) (x y : Value) → Computes o → FitsWork P S w → IsInt x → IsInt y → Well P S w (IsOf S (result_shape o)) (calculate at o x y w)
  calculate_well w at o (value.Int a) (value.Int b) c h p q = either (divides_by_zero o b)
    where
      either : (t : Bool) → Well P S w (IsOf S (result_shape o)) (if t then faults fault.Zero at w else known (arithmetic o a b) w)
      either true = faulted P S w (IsOf S (result_shape o)) fault.Zero at w
      either false = let r = c w a b in known_well P S w (IsOf S (result_shape o)) (arithmetic o a b) r.0 h r.1 r.2
  calculate_well w at o (value.Int a) (value.Bool b) c h p q = absurd q
  calculate_well w at o (value.Int a) value.Null c h p q = absurd q
  calculate_well w at o (value.Int a) (value.Old id) c h p q = absurd q
  calculate_well w at o (value.Int a) (value.New n) c h p q = absurd q
  calculate_well w at o (value.Bool b) y c h p q = absurd p
  calculate_well w at o value.Null y c h p q = absurd p
  calculate_well w at o (value.Old id) y c h p q = absurd p
  calculate_well w at o (value.New n) y c h p q = absurd p

  -- an operator on two numbers
  on_numbers :
      (w : Work) (at : Place) (o : Op) (u v : Shape) (x : Value) (right : Got Value) → Computes o → FitsWork P S w → (u ≡ shape.Int) × (v ≡ shape.Int)
      → Shaped S w u x → Well P S w (IsOf S v) right → Well P S w (IsOf S (result_shape o)) (and_then right (λ y v. calculate at o x y v))
  on_numbers w at o u v x right c h t p k =
      and_well P S w (IsOf S v) (IsOf S (result_shape o)) right _ k (λ y z f q.
      calculate_well z at o x y c f.fits (subst (λ u. Shaped S w u x) t.0 p) (subst (λ v. Shaped S z v y) t.1 q))

  pub operate_well :
      (w : Work) (at : Place) (o : Op) (u v : Shape) (x : Value) (right : Work → Got Value) → FitsWork P S w → Takes o u v
      → Shaped S w u x → Well P S w (IsOf S v) (right w) → Well P S w (IsOf S (result_shape o)) (operate at o x right w)
  operate_well w at op.And u v x right h t p k =
      choose_well P S w (IsOf S shape.Bool) x right (Gives (value.Bool false)) (subst (λ u. Shaped S w u x) t.0 p) (subst (λ v. Well P S w (IsOf S v) (right w)) t.1 k)
      (stays_here P S w (IsOf S shape.Bool) (value.Bool false) h tt)
  operate_well w at op.Or u v x right h t p k =
      choose_well P S w (IsOf S shape.Bool) x (Gives (value.Bool true)) right (subst (λ u. Shaped S w u x) t.0 p)
      (stays_here P S w (IsOf S shape.Bool) (value.Bool true) h tt) (subst (λ v. Well P S w (IsOf S v) (right w)) t.1 k)
  operate_well w at op.Same u v x right h t p k =
      and_well P S w (IsOf S v) (IsOf S shape.Bool) (right w) _ k (λ y z f q. stays_here P S z (IsOf S shape.Bool) (value.Bool (same_value x y)) f.fits tt)
  operate_well w at op.Differ u v x right h t p k =
      and_well P S w (IsOf S v) (IsOf S shape.Bool) (right w) _ k (λ y z f q. stays_here P S z (IsOf S shape.Bool) (value.Bool (not (same_value x y))) f.fits tt)
  operate_well w at op.Less u v x right h t p k = on_numbers w at op.Less u v x (right w) (λ w a b. (value.Bool (int_lt a b), refl, tt)) h t p k
  operate_well w at op.LessEq u v x right h t p k = on_numbers w at op.LessEq u v x (right w) (λ w a b. (value.Bool (int_le a b), refl, tt)) h t p k
  operate_well w at op.More u v x right h t p k = on_numbers w at op.More u v x (right w) (λ w a b. (value.Bool (int_lt b a), refl, tt)) h t p k
  operate_well w at op.MoreEq u v x right h t p k = on_numbers w at op.MoreEq u v x (right w) (λ w a b. (value.Bool (int_le b a), refl, tt)) h t p k
  operate_well w at op.Add u v x right h t p k = on_numbers w at op.Add u v x (right w) (λ w a b. (wrapped (a +ℤ b), refl, SFits-int_wrap w32 (a +ℤ b))) h t p k
  operate_well w at op.Sub u v x right h t p k = on_numbers w at op.Sub u v x (right w) (λ w a b. (wrapped (a -ℤ b), refl, SFits-int_wrap w32 (a -ℤ b))) h t p k
  operate_well w at op.Mul u v x right h t p k = on_numbers w at op.Mul u v x (right w) (λ w a b. (wrapped (a *ℤ b), refl, SFits-int_wrap w32 (a *ℤ b))) h t p k
  operate_well w at op.Div u v x right h t p k = on_numbers w at op.Div u v x (right w) (λ w a b. (wrapped (int_div a b), refl, SFits-int_wrap w32 (int_div a b))) h t p k
  operate_well w at op.Rem u v x right h t p k = on_numbers w at op.Rem u v x (right w) (λ w a b. (wrapped (int_rem a b), refl, SFits-int_wrap w32 (int_rem a b))) h t p k

  -- an index of an element that is there, and then the next on the same work
  pub index_then :
      {A : Type 0} (w : Work) (R : Work → A → Type 0) (at : Place) (b : Body) (i : Value) (go : ℕ → Work → Got A) → IsInt i
      → ((n : ℕ) (x : Value) → slice_get b.cells n ≡ Some x → Well P S w R (go n w)) → Well P S w R (and_then (index_in at b i w) go)
  index_then {A} w R at b (value.Int (pos n)) go q k = either (slice_get b.cells n) refl
    where
      either : (o : Option Value) → slice_get b.cells n ≡ o → Well P S w R (and_then (within at (option_and_then (λ x. Some n) o) w) go)
      either (Some x) e = k n x e
      either None e = faulted P S w R fault.Bounds at w
  index_then w R at b (value.Int (negsuc n)) go q k = faulted P S w R fault.Bounds at w
  index_then w R at b (value.Bool t) go q k = absurd q
  index_then w R at b value.Null go q k = absurd q
  index_then w R at b (value.Old id) go q k = absurd q
  index_then w R at b (value.New n) go q k = absurd q

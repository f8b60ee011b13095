-- What is done with the operands of an expression: operators, calls, and the making of objects.
use Rattle.std.proofs.Common.{◌≡◌, ℕ, ◌+◌, true, false, List, [], ◌∷◌, length, refl, sym, ap, ◌∙◌, subst, arith}
use Rattle.std.specs.Prelude.{slice_get, Option, Some, None}
use Rattle.bc_data.specs.declared.program.Op.{Op}
use Rattle.bc_data.specs.declared.program.Op.TheVariants as op
use Rattle.bc_data.specs.declared.program.Shape.{Shape}
use Rattle.bc_data.specs.declared.program.Tweak.{Tweak}
use Rattle.bc_data.specs.declared.program.Tweak.TheVariants as tweak
use Rattle.bc_data.specs.declared.run.Body.{Body}
use Rattle.bc_data.specs.declared.run.Kind.TheVariants as kind
use Rattle.bc_data.specs.declared.run.Place.{Place}
use Rattle.bc_data.specs.declared.run.Value.{Value}
use Rattle.bc_data.specs.declared.run.Value.TheVariants as value
use Rattle.bc_data.specs.Typed.{TypedMethod, TypedClass}
use Rattle.bc_data.specs.TypedBodies.{IsMethodOf}
use Rattle.bc_mean.specs.Evaluate.{Frame, calculate, operate, tweak_one, tweak_all, zero_object, construct, call_on}
use Rattle.bc_mean.specs.Work.{Work, Got, Gives, and_then, known, choose, reach, enter, make}
use Rattle.bc_code.specs.declared.code.Instruction.{Instruction}
use Rattle.bc_code.specs.declared.code.Instruction.TheVariants as instruction
use Rattle.bc_code.specs.declared.code.ClassCode.{ClassCode}
use Rattle.bc_code.specs.Instructions.{Activation, Did, On, goes, on_one, calculated, called, maker_of, method_of, new_body, rule}
use Rattle.bc_code.specs.Translation.{text_of, At, right_from, behind_operator, behind_maker, behind_make, behind_each, IsOperator, AreTweaks, IsMakerCall, IsMakeCall}
use Rattle.bc_code.specs.Instructions.{nowhere}
use Rattle.bc_law_code.proofs.Bodies.{IsCallable, IsGround, Standing, class_code, here, one_at, piled, result_on, taken_piled}
use Rattle.bc_law_code.proofs.Callables.{HasMaker, maker_code, method_code}
use Rattle.bc_law_code.proofs.Costs.{cost_operator, cost_make, cost_maker, each}
use Rattle.bc_law_code.proofs.Leads.{Ground, Leads, goes_and_then, goes_near, goes_then, here_now, mapped, reads, step_on, step_to, wider, world, wrong_now}
use Rattle.bc_law_code.proofs.Lowers.{lower_bind, lower_calculate, lower_gives, lower_known, lower_made_one, lower_make, lower_reach, lower_set_flag, lower_then}

module _ {G : Ground} (S : Standing G) (f : Frame) where
  -- a test, and the jump that it decides
  pub jump_if_not :
      {B : Type 0} {c : ℕ} (p q : ℕ) (st : List Value) (x : Value) (w : Work) (one other : Work → Got B) (out : B → Work → Did)
      → At (text_of S.unit) p (instruction.JumpIfNot q) nowhere
      → Leads G w.turns c (On (here S (p + 1) f st w)) (one w) out → Leads G w.turns c (On (here S q f st w)) (other w) out
      → Leads G w.turns (1 + c) (On (here S p f (x ∷ st) w)) (choose x one other w) out
  jump_if_not p q st (value.Bool true) w one other out at l m = step_on (one_at S p f (value.Bool true ∷ st) w at) l
  jump_if_not p q st (value.Bool false) w one other out at l m = step_on (one_at S p f (value.Bool false ∷ st) w at) m
  jump_if_not p q st (value.Int n) w one other out at l m = wrong_now
  jump_if_not p q st value.Null w one other out at l m = wrong_now
  jump_if_not p q st (value.Old id) w one other out at l m = wrong_now
  jump_if_not p q st (value.New n) w one other out at l m = wrong_now

  jump_if :
      {B : Type 0} {c : ℕ} (p q : ℕ) (st : List Value) (x : Value) (w : Work) (one other : Work → Got B) (out : B → Work → Did)
      → At (text_of S.unit) p (instruction.JumpIf q) nowhere
      → Leads G w.turns c (On (here S q f st w)) (one w) out → Leads G w.turns c (On (here S (p + 1) f st w)) (other w) out
      → Leads G w.turns (1 + c) (On (here S p f (x ∷ st) w)) (choose x one other w) out
  jump_if p q st (value.Bool true) w one other out at l m = step_on (one_at S p f (value.Bool true ∷ st) w at) l
  jump_if p q st (value.Bool false) w one other out at l m = step_on (one_at S p f (value.Bool false ∷ st) w at) m
  jump_if p q st (value.Int n) w one other out at l m = wrong_now
  jump_if p q st value.Null w one other out at l m = wrong_now
  jump_if p q st (value.Old id) w one other out at l m = wrong_now
  jump_if p q st (value.New n) w one other out at l m = wrong_now

  -- the code of a right operand runs from p to before r
  abbrev pub RightRuns : ℕ → ℕ → ℕ → (Work → Got Value) → Type 0
  RightRuns c p r right =
      (st : List Value) (w : Work) → Leads G w.turns c (On (here S p f st w)) (right w) (λ y u. On (here S r f (y ∷ st) u))

  arithmetic_runs :
      (o : Op) (i : Instruction) (at : Place) (x : Value) (right : Work → Got Value) (q r c : ℕ) (st : List Value) (w : Work)
      → RightRuns c q r right → At (text_of S.unit) r i at
      → ((y : Value) (v : Work) → rule (reads G) G.code at i (here S r f (y ∷ x ∷ st) v) ≡ calculated at o (here S r f (y ∷ x ∷ st) v))
      → Leads G w.turns (c + 1) (On (here S q f (x ∷ st) w)) (and_then (right w) (λ y v. calculate at o x y v)) (λ y u. On (here S (r + 1) f (y ∷ st) u))
  arithmetic_runs o i at x right q r c st w runs has e =
      goes_then (runs (x ∷ st) w) (λ y v. step_to (one_at S r f (y ∷ x ∷ st) v has ∙ e y v) (lower_calculate at o x y v))

  -- an operator, with its left operand on the stack
  pub operator_runs :
      (at : Place) (o : Op) (x : Value) (right : Work → Got Value) (q r c : ℕ) (st : List Value) (w : Work)
      → RightRuns c (right_from o q) r right → IsOperator (text_of S.unit) at o q r
      → Leads G w.turns (cost_operator o c) (On (here S q f (x ∷ st) w)) (operate at o x right w) (λ y u. On (here S (behind_operator o r) f (y ∷ st) u))
  operator_runs at op.And x right q r c st w runs has =
      jump_if_not q (r + 1) st x w _ _ _ has.0
      (wider (omega arith) (goes_near (runs st w) (λ y u. record { steps = 1; is = one_at S r f (y ∷ st) u has.1; few = omega arith })))
      (wider (omega arith) (step_to (one_at S (r + 1) f st w has.2) lower_gives))
  operator_runs at op.Or x right q r c st w runs has =
      jump_if q (r + 1) st x w _ _ _ has.0
      (wider (omega arith) (step_to (one_at S (r + 1) f st w has.2) lower_gives))
      (wider (omega arith) (goes_near (runs st w) (λ y u. record { steps = 1; is = one_at S r f (y ∷ st) u has.1; few = omega arith })))
  operator_runs at op.Same x right q r c st w runs has =
      goes_then (runs (x ∷ st) w) (λ y v. step_to (one_at S r f (y ∷ x ∷ st) v has) lower_gives)
  operator_runs at op.Differ x right q r c st w runs has =
      goes_then (runs (x ∷ st) w) (λ y v. step_to (one_at S r f (y ∷ x ∷ st) v has) lower_gives)
  operator_runs at op.Less x right q r c st w runs has = arithmetic_runs op.Less _ at x right q r c st w runs has (λ y v. refl)
  operator_runs at op.LessEq x right q r c st w runs has = arithmetic_runs op.LessEq _ at x right q r c st w runs has (λ y v. refl)
  operator_runs at op.More x right q r c st w runs has = arithmetic_runs op.More _ at x right q r c st w runs has (λ y v. refl)
  operator_runs at op.MoreEq x right q r c st w runs has = arithmetic_runs op.MoreEq _ at x right q r c st w runs has (λ y v. refl)
  operator_runs at op.Add x right q r c st w runs has = arithmetic_runs op.Add _ at x right q r c st w runs has (λ y v. refl)
  operator_runs at op.Sub x right q r c st w runs has = arithmetic_runs op.Sub _ at x right q r c st w runs has (λ y v. refl)
  operator_runs at op.Mul x right q r c st w runs has = arithmetic_runs op.Mul _ at x right q r c st w runs has (λ y v. refl)
  operator_runs at op.Div x right q r c st w runs has = arithmetic_runs op.Div _ at x right q r c st w runs has (λ y v. refl)
  operator_runs at op.Rem x right q r c st w runs has = arithmetic_runs op.Rem _ at x right q r c st w runs has (λ y v. refl)

  tweak_runs :
      (t : Tweak) (p n : ℕ) (st : List Value) (w : Work) → AreTweaks (text_of S.unit) p (t ∷ [])
      → Leads G w.turns 1 (On (here S p f (value.New n ∷ st) w)) (tweak_one f n t w) (λ _ v. On (here S (p + 1) f (value.New n ∷ st) v))
  tweak_runs (tweak.Flag flag b) p n st w has =
      step_to (one_at S p f (value.New n ∷ st) w has.0) (lower_then (lower_made_one n (slice_get w.made n) w) (λ o v. lower_set_flag o flag b v))
  tweak_runs (tweak.Add at variable) p n st w has =
      step_to (one_at S p f (value.New n ∷ st) w has.0)
      (lower_then (lower_made_one n (slice_get w.made n) w) (λ o v. lower_then (lower_known (slice_get f.tags variable) v) (λ t u. lower_bind at o t u)))

  tweaks_run :
      (ts : List Tweak) (p n : ℕ) (st : List Value) (w : Work) → AreTweaks (text_of S.unit) p ts
      → Leads G w.turns (each ts) (On (here S p f (value.New n ∷ st) w)) (tweak_all f n ts w) (λ _ v. On (here S (behind_each ts p) f (value.New n ∷ st) v))
  tweaks_run [] p n st w has = here_now (omega arith)
  tweaks_run (t ∷ ts) p n st w has =
      goes_then (tweak_runs t p n st w (has.0, tt)) (λ _ v. tweaks_run ts (p + 1) n st v has.1)

  module _ (ok : IsGround G) where
    -- the current call, behind its instruction
    abbrev around : ℕ → Activation
    around q = record { unit = S.number; next = q + 1; frame = f }

    entered_runs :
        (at : Place) (u : ℕ) (m : TypedMethod) (xs st : List Value) (q : ℕ) (w : Work) (r : Option ℕ) → r ≡ Some u → IsCallable G u m
        → Leads G w.turns 0 (goes (enter at (length S.callers) w) (λ _ v. called G.code r xs (around q ∷ S.callers) st v)) (S.calls at m xs w) (λ y v. On (here S (q + 1) f (result_on m.result y st) v))
    entered_runs at u m xs st q w r is callable =
        subst (λ (d : ℕ). Leads G w.turns 0 (goes (enter at d w) (λ _ v. called G.code r xs (around q ∷ S.callers) st v)) (S.calls at m xs w) (λ y v. On (here S (q + 1) f (result_on m.result y st) v))) (sym S.deep)
        (subst (λ (o : Option ℕ). Leads G w.turns 0 (goes (enter at S.depth w) (λ _ v. called G.code o xs (around q ∷ S.callers) st v)) (S.calls at m xs w) (λ y v. On (here S (q + 1) f (result_on m.result y st) v))) (sym is)
        (S.runs u m at xs (around q) S.callers st w callable S.deep))

    -- a call, with its object and arguments on the stack
    pub call_runs :
        (at : Place) (c n k : ℕ) (m : TypedMethod) (x : Value) (xs st : List Value) (q : ℕ) (w : Work) → IsMethodOf G.program.classes c n m
        → At (text_of S.unit) q (instruction.Call c n k) at → length xs ≡ k
        → Leads G w.turns 1 (On (here S q f (piled xs (x ∷ st)) w)) (call_on (world G) S.calls at c n x xs w) (λ y v. On (here S (q + 1) f (result_on m.result y st) v))
    call_runs at c n k m x xs st q w is has many =
        let t = method_code G ok c n m is in
        let unit : Option ℕ = method_of G.code c n in
        let entered = λ (v : Work). goes (enter at (length S.callers) v) (λ _ u. called G.code unit (x ∷ xs) (around q ∷ S.callers) st u) in
        let go = λ (ys rest : List Value).
        on_one rest (λ y more_st. goes (and_then (reach G.look at y w) (λ o v. enter at (length S.callers) v)) (λ _ v. called G.code unit (y ∷ ys) (around q ∷ S.callers) more_st v)) in
        goes_then {c = 1} {d = 0} {mid = λ o v. entered v}
        (step_to
        (one_at S q f (piled xs (x ∷ st)) w has
        ∙ taken_piled xs (x ∷ st) k go many
        ∙ goes_and_then (reach G.look at x w) (λ o v. enter at (length S.callers) v) (λ _ v. called G.code unit (x ∷ xs) (around q ∷ S.callers) st v))
        (lower_reach G.look at x w))
        (λ o v.
        subst (λ (p : Option TypedMethod). Leads G v.turns 0 (entered v) (and_then (known p v) (λ z u. S.calls at z (x ∷ xs) u)) (λ y u. On (here S (q + 1) f (result_on m.result y st) u))) (sym t.means)
        (entered_runs at t.unit m (x ∷ xs) st q v unit t.there t.callable))

    -- where a method has a result, its value is on the stack
    pub result_known :
        (r : Option Shape) (sh : Shape) (q : ℕ) (st : List Value) (y : Option Value) (w : Work) → r ≡ Some sh
        → Leads G w.turns 0 (On (here S q f (result_on r y st) w)) (known y w) (λ x v. On (here S q f (x ∷ st) v))
    result_known r sh q st None w e = wrong_now
    result_known r sh q st (Some x) w e =
        subst (λ (o : Option Shape). Leads G w.turns 0 (On (here S q f (result_on o (Some x) st) w)) (Gives x w) (λ z v. On (here S q f (z ∷ st) v))) (sym e) (here_now (omega arith))

    -- where there is a constructor it runs, and else there were no arguments
    construct_runs :
        (at : Place) (c k n : ℕ) (o : Option TypedMethod) (xs st : List Value) (q : ℕ) (w : Work) → ((m : TypedMethod) → o ≡ Some m → HasMaker G c m) → (o ≡ None → k ≡ 0)
        → length xs ≡ k → IsMakerCall (text_of S.unit) q at c k o
        → Leads G w.turns (cost_maker o) (On (here S q f (value.New n ∷ piled xs st) w)) (construct S.calls at o n xs w) (λ x v. On (here S (behind_maker o q) f (x ∷ st) v))
    construct_runs at c k n None [] st q w maker few many has = here_now (omega arith)
    construct_runs at c k n None (x ∷ xs) st q w maker few many has = let e = few refl in absurd (omega arith)
    construct_runs at c k n (Some m) xs st q w maker few many has =
        let t = maker m refl in
        let go = λ (ys rest : List Value). goes (enter at (length S.callers) w) (λ _ v. called G.code (maker_of G.code c) (value.New n ∷ ys) (around q ∷ S.callers) (value.New n ∷ rest) v) in
        mapped (λ _. value.New n)
        (step_on (one_at S q f (value.New n ∷ piled xs st) w has ∙ taken_piled xs st k go many)
        (subst (λ (r : Option Shape). Leads G w.turns 0 (go xs st) (S.calls at m (value.New n ∷ xs) w) (λ y v. On (here S (q + 1) f (result_on r y (value.New n ∷ st)) v))) t.bare
        (entered_runs at t.unit m (value.New n ∷ xs) (value.New n ∷ st) q w (maker_of G.code c) t.there t.callable)))

    -- a new object of a class, with the arguments of its constructor on the stack
    abbrev Makes : Place → ℕ → ℕ → List Tweak → List Value → List Value → ℕ → Work → Option TypedClass → Type 0
    Makes at c k tweaks xs st q w o =
        At (text_of S.unit) q (instruction.NewObject c) at → AreTweaks (text_of S.unit) (q + 1) tweaks → IsMakeCall (text_of S.unit) (behind_each tweaks (q + 1)) at c k o
        → Leads G w.turns (1 + (each tweaks + cost_make o)) (On (here S q f (piled xs st) w))
        (and_then (known o w) (λ d u. and_then (make at (zero_object c d) u) (λ n t. and_then (tweak_all f n tweaks t) (λ _ s. construct S.calls at d.maker n xs s))))
        (λ x v. On (here S (behind_make o (behind_each tweaks (q + 1))) f (x ∷ st) v))

    pub make_runs :
        (at : Place) (c k : ℕ) (d : TypedClass) (tweaks : List Tweak) (xs st : List Value) (q : ℕ) (w : Work) → slice_get G.program.classes c ≡ Some d → (d.maker ≡ None → k ≡ 0)
        → length xs ≡ k → Makes at c k tweaks xs st q w (slice_get G.program.classes c)
    make_runs at c k d tweaks xs st q w is few many =
        let t = class_code G ok c d is in
        let same : new_body c t.class ≡ zero_object c d = ap (λ (cells : List Value). record { kind = kind.Class c; cells = cells; flags = 0; tags = [] }) t.is.cells in
        let go = λ (n : ℕ) (v : Work). On (here S (q + 1) f (value.New n ∷ piled xs st) v) in
        subst (Makes at c k tweaks xs st q w) (sym is) (λ has are calls.
        goes_then
        (step_to (one_at S q f (piled xs st) w has ∙ ap (λ (o : Option ClassCode). goes (and_then (known o w) (λ e v. make at (new_body c e) v)) go) t.there ∙ ap (λ (b : Body). goes (make at b w) go) same) (lower_make at (zero_object c d) w))
        (λ n v.
        goes_then (tweaks_run tweaks (q + 1) n (piled xs st) v are) (λ _ u.
        construct_runs at c k n d.maker xs st (behind_each tweaks (q + 1)) u (λ m e. maker_code G ok c d m is e) few many calls)))

-- Where the code of a body runs, and what is known of the calls in it.
use Rattle.std.proofs.Common.{◌≡◌, ℕ, zero, suc, ◌+◌, ◌<◌, ◌≤◌, List, [], ◌∷◌, ◌++◌, length, refl, ap, ◌∙◌, append-nil, arith}
use Rattle.std.proofs.lemmas.Option.{slice_get_within}
use Rattle.std.specs.Prelude.{slice_get, Option, Some, None}
use Rattle.bc_data.specs.Typed.{TypedMethod, TypedClass}
use Rattle.bc_data.specs.TypedBodies.{Assigned, AreTyped}
use Rattle.bc_data.specs.WellTyped.{IsWellTyped, method_setting}
use Rattle.bc_data.specs.declared.program.Shape.{Shape}
use Rattle.bc_data.specs.declared.run.Place.{Place}
use Rattle.bc_data.specs.declared.run.Value.{Value}
use Rattle.bc_data.specs.declared.run.Value.TheVariants as value
use Rattle.bc_mean.specs.Evaluate.{Calls, Frame}
use Rattle.bc_mean.specs.Work.{Work, enter}
use Rattle.bc_code.specs.declared.code.Instruction.{Instruction}
use Rattle.bc_code.specs.declared.code.Unit.{Unit as CodeUnit}
use Rattle.bc_code.specs.declared.code.ClassCode.{ClassCode}
use Rattle.bc_code.specs.Instructions.{Activation, State, Did, On, goes, taken, called, left, place_or, rule, on_instruction, in_unit, more}
use Rattle.bc_code.specs.Translation.{text_of, At, Translates, IsClassCode, IsMethodUnit, first_unit, most_instructions}
use Rattle.bc_law_code.proofs.Leads.{Ground, Leads, reads}

-- the code is that of a well-typed program, and a turn pays for the instructions of any unit
pub record IsGround (G : Ground) : Type 0 where
  pub translates : Translates G.program G.code
  pub typed : IsWellTyped G.program
  pub room : most_instructions ≤ G.most

-- a unit that is a method's, whose body is well-typed
pub record IsCallable (G : Ground) (u : ℕ) (m : TypedMethod) : Type 0 where
  pub unit : CodeUnit
  pub there : slice_get G.code.units u ≡ Some unit
  pub is : IsMethodUnit G.program.classes m unit
  pub before : Assigned
  pub behind : Assigned
  pub typed : AreTyped (method_setting G.program m) before m.body behind

-- the stack behind a call: a method without a result leaves nothing there
abbrev pub result_on : Option Shape → Option Value → List Value → List Value
result_on None x st = st
result_on (Some sh) None st = value.Null ∷ st
result_on (Some sh) (Some x) st = x ∷ st

-- calls within so many others run
abbrev pub CallsRun : Ground → ℕ → Calls → Type 0
CallsRun G depth C =
    (u : ℕ) (m : TypedMethod) (at : Place) (xs : List Value) (a : Activation) (fs : List Activation) (st : List Value) (w : Work)
    → IsCallable G u m → length fs ≡ depth
    → Leads G w.turns 0 (goes (enter at depth w) (λ _ v. called G.code (Some u) xs (a ∷ fs) st v)) (C at m xs w) (λ x v. left (a ∷ fs) (result_on m.result x st) v)

-- the unit whose code runs, the calls around it, and what calls in it do
pub record Standing (G : Ground) : Type 0 where
  pub number : ℕ
  pub unit : CodeUnit
  pub there : slice_get G.code.units number ≡ Some unit
  pub callers : List Activation
  pub depth : ℕ
  pub deep : length callers ≡ depth
  pub calls : Calls
  pub runs : CallsRun G depth calls

abbrev pub here : {G : Ground} → Standing G → ℕ → Frame → List Value → Work → State
here S p f st w = record { current = record { unit = S.number; next = p; frame = f }; callers = S.callers; stack = st; work = w }

-- one instruction, which stands there
pub one_at :
    {G : Ground} (S : Standing G) {i : Instruction} {at : Place} (p : ℕ) (f : Frame) (st : List Value) (w : Work) → At (text_of S.unit) p i at
    → more (reads G) G.code 1 (On (here S p f st w)) ≡ rule (reads G) G.code at i (here S p f st w)
one_at {G} S {i} {at} p f st w h =
    ap (λ (o : Option CodeUnit). in_unit (reads G) G.code o (here S p f st w)) S.there
    ∙ ap (λ (o : Option Instruction). on_instruction (reads G) G.code (place_or (slice_get S.unit.places p)) o (here S p f st w)) h.0
    ∙ ap (λ (q : Place). rule (reads G) G.code q i (here S p f st w)) h.1

-- the stack with these values on it, one after the other
abbrev pub piled : List Value → List Value → List Value
piled [] st = st
piled (x ∷ xs) st = piled xs (x ∷ st)

pub piled_last : (xs : List Value) (x : Value) (st : List Value) → x ∷ piled xs st ≡ piled (xs ++ x ∷ []) st
piled_last [] x st = refl
piled_last (y ∷ ys) x st = piled_last ys x (y ∷ st)

taken_more : (xs ys st : List Value) (n : ℕ) (k : List Value → List Value → Did) → taken (length xs + n) ys (piled xs st) k ≡ taken n (xs ++ ys) st k
taken_more [] ys st n k = let e : zero + n ≡ n = omega arith in ap (λ m. taken m ys st k) e
taken_more (x ∷ xs) ys st n k =
    let e : length (x ∷ xs) + n ≡ length xs + suc n = omega arith in
    ap (λ m. taken m ys (piled xs (x ∷ st)) k) e ∙ taken_more xs ys (x ∷ st) (suc n) k

-- as many values as were piled come off the stack as they were
pub taken_piled : (xs st : List Value) (n : ℕ) (k : List Value → List Value → Did) → length xs ≡ n → taken n [] (piled xs st) k ≡ k xs st
taken_piled xs st n k many =
    let e : n ≡ length xs + 0 = omega arith in
    ap (λ m. taken m [] (piled xs st) k) e ∙ taken_more xs [] st 0 k ∙ ap (λ ys. k ys st) (append-nil xs)

-- the code of a class
pub record HasCode (G : Ground) (c : ℕ) (k : TypedClass) : Type 0 where
  pub class : ClassCode
  pub there : slice_get G.code.classes c ≡ Some class
  pub is : IsClassCode G.program.classes G.code.units (first_unit G.program c) k class

element_within : {A : Type 0} (xs : List A) (i : ℕ) → i < length xs → (x : A) × (slice_get xs i ≡ Some x)
element_within [] i h = absurd (omega arith)
element_within (x ∷ xs) zero h = (x, refl)
element_within (x ∷ xs) (suc i) h = element_within xs i (omega arith)

pub class_code : (G : Ground) → IsGround G → (c : ℕ) (k : TypedClass) → slice_get G.program.classes c ≡ Some k → HasCode G c k
class_code G ok c k is =
    let inside = slice_get_within G.program.classes c k is in
    let same = ok.translates.same_classes in
    let d = element_within G.code.classes c (omega (arith, inside, same)) in
    record { class = d.0; there = d.1; is = ok.translates.classes c k d.0 is d.1 }

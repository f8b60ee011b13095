-- What the machine did over some bodies it does over more.
use Rattle.std.proofs.Common.{◌≡◌, ℕ, zero, suc, List, [], ◌∷◌, refl, ◌∙◌, ap}
use Rattle.std.specs.Prelude.{slice_get, Option, Some, None}
use Rattle.bc_data.specs.declared.run.Body.{Body}
use Rattle.bc_data.specs.declared.run.Place.{Place}
use Rattle.bc_data.specs.declared.run.Value.{Value}
use Rattle.bc_data.specs.declared.run.Value.TheVariants as value
use Rattle.bc_mean.specs.Work.{Look, Work, Got, Gives, Stops, Reached, and_then, parameter, reach, seen, touch}
use Rattle.bc_law_locality.specs.Laws.{Extends}
use Rattle.bc_code.specs.declared.code.Code.{Code}
use Rattle.bc_code.specs.declared.code.Instruction.{Instruction}
use Rattle.bc_code.specs.declared.code.Instruction.TheVariants as instruction
use Rattle.bc_code.specs.declared.code.Unit.{Unit as CodeUnit}
use Rattle.bc_code.specs.Instructions.{Reads, State, Did, On, Over, Stuck, exit_action, goes, in_unit, more, on_instruction, on_one, on_three, on_two, place_or, rule, start, step, taken}
use Rattle.bc_law_code.specs.Laws.{CodeOverMore}

-- what the one gives the other gives too
abbrev GivesToo : {A : Type 0} → Got A → Got A → Type 0
GivesToo {A} g h = (x : A) (w : Work) → g ≡ Gives x w → h ≡ Gives x w

then_more : {A B : Type 0} (g h : Got A) (go : A → Work → Got B) → GivesToo g h → GivesToo (and_then g go) (and_then h go)
then_more {A = A} (Gives y v) h go f x w e = ap (λ (m : Got A). and_then m go) (f y v refl) ∙ e
then_more (Stops s v) h go f x w e = absurd (cc)

goes_more : {A : Type 0} (g h : Got A) (k : A → Work → Did) (t : State) → GivesToo g h → goes g k ≡ On t → goes h k ≡ On t
goes_more {A = A} (Gives y v) h k t f e = ap (λ (m : Got A). goes m k) (f y v refl) ∙ e
goes_more (Stops s v) h k t f e = absurd (cc)

one_more : (st : List Value) (j k : Value → List Value → Did) (t : State) → ((x : Value) (rest : List Value) → j x rest ≡ On t → k x rest ≡ On t) → on_one st j ≡ On t → on_one st k ≡ On t
one_more [] j k t f h = absurd (cc)
one_more (x ∷ st) j k t f h = f x st h

two_more : (st : List Value) (j k : Value → Value → List Value → Did) (t : State) → ((x y : Value) (rest : List Value) → j x y rest ≡ On t → k x y rest ≡ On t) → on_two st j ≡ On t → on_two st k ≡ On t
two_more st j k t f h = one_more st _ _ t (λ y rest. one_more rest _ _ t (λ x last. f x y last)) h

three_more : (st : List Value) (j k : Value → Value → Value → List Value → Did) (t : State) → ((x y z : Value) (rest : List Value) → j x y z rest ≡ On t → k x y z rest ≡ On t) → on_three st j ≡ On t → on_three st k ≡ On t
three_more st j k t f h = one_more st _ _ t (λ z rest. two_more rest _ _ t (λ x y last. f x y z last)) h

taken_more : (n : ℕ) (xs st : List Value) (j k : List Value → List Value → Did) (t : State) → ((ys rest : List Value) → j ys rest ≡ On t → k ys rest ≡ On t) → taken n xs st j ≡ On t → taken n xs st k ≡ On t
taken_more zero xs st j k t f h = f xs st h
taken_more (suc n) xs [] j k t f h = absurd (cc)
taken_more (suc n) xs (x ∷ st) j k t f h = taken_more n (x ∷ xs) st j k t f h

-- What is over, or has no rule, never goes on.
over_ends : (R : Reads) (code : Code) (n : ℕ) (g : Got (Unit {0})) (t : State) → more R code n (Over g) ≡ On t → ⊥
over_ends R code zero g t e = absurd (cc)
over_ends R code (suc n) g t e = over_ends R code n g t e

stuck_ends : (R : Reads) (code : Code) (n : ℕ) (t : State) → more R code n Stuck ≡ On t → ⊥
stuck_ends R code zero t e = absurd (cc)
stuck_ends R code (suc n) t e = stuck_ends R code n t e

module _ (L M : Look) (extends : Extends L M) (objects : List ℕ) (code : Code) where
  abbrev own : Reads
  own = record { look = L; objects = objects }

  abbrev wide : Reads
  wide = record { look = M; objects = objects }

  seen_more : (id : ℕ) (v : Work) (o : Option Body) → L id ≡ o → GivesToo (seen id o v) (seen id (M id) v)
  seen_more id v None is x w e = absurd (cc)
  seen_more id v (Some b) is x w e = ap (λ (o : Option Body). seen id o v) (extends id b is) ∙ e

  reach_more : (p : Place) (x : Value) (v : Work) → GivesToo (reach L p x v) (reach M p x v)
  reach_more p (value.Old id) v = seen_more id (touch id v) (L id) refl
  reach_more p value.Null v = λ y w e. e
  reach_more p (value.New n) v = λ y w e. e
  reach_more p (value.Int n) v = λ y w e. e
  reach_more p (value.Bool b) v = λ y w e. e

  parameter_more : (o : Option ℕ) (v : Work) → GivesToo (parameter L o v) (parameter M o v)
  parameter_more None v = λ x w e. e
  parameter_more (Some id) v = seen_more id v (L id) refl

  exit_more : (n : ℕ) (act : Reached → Work → Got (Unit {0})) (s t : State) → exit_action own n act s ≡ On t → exit_action wide n act s ≡ On t
  exit_more n act s t h = goes_more _ _ _ t (then_more _ _ act (parameter_more (slice_get objects n) s.work)) h

  rule_more : (p : Place) (i : Instruction) (s t : State) → rule own code p i s ≡ On t → rule wide code p i s ≡ On t
  rule_more p (instruction.Int n) s t h = h
  rule_more p (instruction.Bool b) s t h = h
  rule_more p instruction.Null s t h = h
  rule_more p (instruction.Load n) s t h = h
  rule_more p (instruction.Store n) s t h = h
  rule_more p instruction.Pop s t h = h
  rule_more p instruction.Neg s t h = h
  rule_more p instruction.Not s t h = h
  rule_more p instruction.Add s t h = h
  rule_more p instruction.Sub s t h = h
  rule_more p instruction.Mul s t h = h
  rule_more p instruction.Div s t h = h
  rule_more p instruction.Rem s t h = h
  rule_more p instruction.Less s t h = h
  rule_more p instruction.LessEq s t h = h
  rule_more p instruction.More s t h = h
  rule_more p instruction.MoreEq s t h = h
  rule_more p instruction.Same s t h = h
  rule_more p instruction.Differ s t h = h
  rule_more p (instruction.Jump n) s t h = h
  rule_more p (instruction.JumpIf n) s t h = h
  rule_more p (instruction.JumpIfNot n) s t h = h
  rule_more p instruction.Turn s t h = h
  rule_more p (instruction.Field f) s t h = one_more s.stack _ _ t (λ x st. goes_more _ _ _ t (then_more _ _ _ (reach_more p x s.work))) h
  rule_more p (instruction.SetField f) s t h = two_more s.stack _ _ t (λ x y st. goes_more _ _ _ t (then_more _ _ _ (reach_more p x s.work))) h
  rule_more p instruction.Length s t h = one_more s.stack _ _ t (λ x st. goes_more _ _ _ t (reach_more p x s.work)) h
  rule_more p instruction.Elem s t h = two_more s.stack _ _ t (λ x i st. goes_more _ _ _ t (then_more _ _ _ (reach_more p x s.work))) h
  rule_more p instruction.SetElem s t h = three_more s.stack _ _ t (λ x i y st. goes_more _ _ _ t (then_more _ _ _ (reach_more p x s.work))) h
  rule_more p (instruction.NewObject c) s t h = h
  rule_more p (instruction.NewArray k) s t h = h
  rule_more p (instruction.SetFlag f b) s t h = h
  rule_more p (instruction.AddTag variable) s t h = h
  rule_more p (instruction.Make c n) s t h = h
  rule_more p (instruction.Call c m n) s t h = taken_more n [] s.stack _ _ t (λ xs rest. one_more rest _ _ t (λ x st. goes_more _ _ _ t (then_more _ _ _ (reach_more p x s.work)))) h
  rule_more p instruction.Return s t h = h
  rule_more p instruction.ReturnValue s t h = h
  rule_more p (instruction.PrintText bytes) s t h = h
  rule_more p instruction.PrintInt s t h = h
  rule_more p instruction.PrintBool s t h = h
  rule_more p instruction.Assert s t h = h
  rule_more p (instruction.NewTag variable tag_type) s t h = h
  rule_more p (instruction.ExitFlag n f b) s t h = exit_more n _ s t h
  rule_more p (instruction.ExitClear n variable) s t h = exit_more n _ s t h
  rule_more p (instruction.ExitAdd n variable) s t h = exit_more n _ s t h
  rule_more p instruction.Exit s t h = h

  instruction_more : (p : Place) (o : Option Instruction) (s t : State) → on_instruction own code p o s ≡ On t → on_instruction wide code p o s ≡ On t
  instruction_more p None s t h = absurd (cc)
  instruction_more p (Some i) s t h = rule_more p i s t h

  unit_more : (o : Option CodeUnit) (s t : State) → in_unit own code o s ≡ On t → in_unit wide code o s ≡ On t
  unit_more None s t h = absurd (cc)
  unit_more (Some u) s t h = instruction_more (place_or (slice_get u.places s.current.next)) (slice_get u.code s.current.next) s t h

  pub more_over_more : (n : ℕ) (d : Did) (t : State) → more own code n d ≡ On t → more wide code n d ≡ On t
  more_over_more zero d t h = h
  more_over_more (suc n) (On s) t h = at (step own code s) refl (more_over_more n) h
    where
      at : (d : Did) → step own code s ≡ d → ((e : Did) (u : State) → more own code n e ≡ On u → more wide code n e ≡ On u) → more own code n d ≡ On t → more wide code n (step wide code s) ≡ On t
      at (On u) is later k = ap (more wide code n) (unit_more (slice_get code.units s.current.unit) s u is) ∙ later (On u) t k
      at (Over g) is later k = absurd (over_ends own code n g t k)
      at Stuck is later k = absurd (stuck_ends own code n t k)
  more_over_more (suc n) (Over g) t h = absurd (over_ends own code n g t h)
  more_over_more (suc n) Stuck t h = absurd (stuck_ends own code n t h)

pub code_over_more : CodeOverMore
code_over_more code L M v n s extends h = more_over_more L M extends v.objects code n (start code v) s h

-- From what an instruction does to the step.
use Rattle.std.proofs.Common.{◌≡◌, ℕ, List, ◌∷◌, sym, ap, ◌∙◌, subst, Option, Some}
use Rattle.std.specs.Prelude.{ℤ, Result, Ok, Err, IfOk, OnErr, slice_get}
use Rattle.bc_data.specs.declared.run.Place.{Place}
use Rattle.bc_data.specs.declared.run.Written.{Written}
use Rattle.bc_code.specs.declared.code.Code.{Code}
use Rattle.bc_code.specs.declared.code.Unit.{Unit as CodeUnit}
use Rattle.bc_code.specs.declared.code.Instruction.{Instruction}
use Rattle.bc_code.specs.Instructions.{Reads, Did, in_unit, on_instruction, place_or, rule}
use Rattle.bc_code.specs.Instructions as rules
use Rattle.bc_step.specs.declared.state.State.{State}
use Rattle.bc_step.specs.declared.state.Did.{Did as Answer}
use Rattle.bc_step.specs.Area.{AreaParts, AreCopies, reads_of}
use Rattle.std.specs.Int.{w32, int_wrap}
use Rattle.bc_data.specs.declared.run.Value.{Value}
use Rattle.bc_data.specs.declared.run.Value.TheVariants as value
use Rattle.bc_code.specs.declared.code.Instruction.TheVariants as instruction
use Rattle.bc_step.specs.State.{AnswersIf, StaysPut, state_with}
use Rattle.bc_step.specs.Control.{Moves, Follows, IsStill}
use Rattle.bc_step.proofs.Settling.{stays}

-- what the settled answer says where the answer before it moves the state
abbrev pub Settles : Option Answer → Option Answer → AreaParts → AreaParts → Type 0
Settles did done a b = (s t : State) (cs : List Written) (d : Did) → AreCopies cs a.held → Moves did s t a cs d → AnswersIf done s a t b d

module _ (code : Code) (at : Place) (s t : State) (a b : AreaParts) (i j : Instruction) (is : i ≡ j) where
  abbrev pub Does : Option Answer → Type 0
  Does done = (cs : List Written) (ts : List ℕ) → AreCopies cs a.held → AnswersIf done s a t b (rule (reads_of a) code at i (state_with s a cs ts))

  pub moved : (did done : Option Answer) → Settles did done a b → ((cs : List Written) (ts : List ℕ) → Moves did s t a cs (rule (reads_of a) code at j (state_with s a cs ts))) → Does done
  moved did done f h cs ts copies = f s t cs _ copies (subst (λ (i : Instruction). Moves did s t a cs (rule (reads_of a) code at i (state_with s a cs ts))) (sym is) (h cs ts))

  pub followed : (did done : Option Answer) → Settles did done a b → Follows did s t (rule (reads_of a) code at j) → Does done
  followed did done f h = moved did done f (λ cs ts. h a cs ts)

  pub direct : {E : Type 0} (r : Result (Option Answer) E) → IfOk r (λ did. (cs : List Written) (ts : List ℕ) → AreCopies cs a.held → AnswersIf did s a t b (rule (reads_of a) code at j (state_with s a cs ts))) → IfOk r Does
  direct (Ok did) h = λ cs ts copies. subst (λ (i : Instruction). AnswersIf did s a t b (rule (reads_of a) code at i (state_with s a cs ts))) (sym is) (h cs ts copies)
  direct (Err e) h = h

  pub direct_any : {E : Type 0} (r : Result (Option Answer) E) → IfOk r (λ did. (code : Code) (cs : List Written) (ts : List ℕ) → AreCopies cs a.held → AnswersIf did s a t b (rule (reads_of a) code at j (state_with s a cs ts))) → IfOk r Does
  direct_any {E = E} (Ok did) h = direct {E = E} (Ok did) (h code)
  direct_any (Err e) h = h

-- the instruction at a state's place
pub stepped : (code : Code) (s : State) (t : State) (a b : AreaParts) (u : CodeUnit) (i : Instruction) (at : Place) → slice_get code.units s.current.unit ≡ Some u → slice_get u.code s.current.next ≡ Some i → at ≡ place_or (slice_get u.places s.current.next)
    → {E : Type 0} (r : Result (Option Answer) E) → IfOk r (λ did. (cs : List Written) (ts : List ℕ) → AreCopies cs a.held → AnswersIf did s a t b (rule (reads_of a) code at i (state_with s a cs ts)))
    → IfOk r (λ did. (cs : List Written) (ts : List ℕ) → AreCopies cs a.held → AnswersIf did s a t b (rules.step (reads_of a) code (state_with s a cs ts)))
stepped code s t a b u i at unit instruction place (Ok did) h = λ cs ts copies.
    let S = state_with s a cs ts in
    let R = reads_of a in
    subst (AnswersIf did s a t b)
    (ap (λ p. rule R code p i S) place ∙ sym (ap (λ o. on_instruction R code (place_or (slice_get u.places s.current.next)) o S) instruction) ∙ sym (ap (λ o. in_unit R code o S) unit))
    (h cs ts copies)
stepped code s t a b u i at unit instruction place (Err e) h = h

-- An error after which the rules see the state as it was.
pub still_err : {A E : Type 0} (r : Result A E) (s t : State) (a : AreaParts) → IsStill s t → OnErr r (StaysPut s a t a)
still_err (Ok x) s t a h = tt
still_err (Err e) s t a h = stays s t a h

-- a number that is put on the stack
pub put_number : (R : Reads) (code : Code) (at : Place) (n : ℤ) (did : Option Answer) (s t : State) (x : Value) → x ≡ value.Int (int_wrap w32 n) → Follows did s t (λ S. rules.next S (x ∷ S.stack) S.work) → Follows did s t (rule R code at (instruction.Int n))
put_number R code at n did s t x e h = λ a cs ts.
    subst (λ (z : Value). Moves did s t a cs (rules.next (state_with s a cs ts) (z ∷ (state_with s a cs ts).stack) (state_with s a cs ts).work)) e (h a cs ts)

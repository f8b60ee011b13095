-- Code over some bodies comes to what the meaning over them says, as facts that contracts name.
use Rattle.std.specs.Prelude.{◌≡◌, ◌≤◌, ℕ, ◌+◌, ◌*◌, true, List, [], ◌∷◌, ◌++◌}
use Rattle.bc_data.specs.Typed.{TypedProgram}
use Rattle.bc_data.specs.WellTyped.{IsWellTyped}
use Rattle.bc_data.specs.declared.run.Body.{Body}
use Rattle.bc_data.specs.declared.run.Invocation.{Invocation}
use Rattle.bc_data.specs.declared.run.Written.{Written}
use Rattle.bc_mean.specs.Enabled.{are_different}
use Rattle.bc_mean.specs.Execute.{most_turns}
use Rattle.bc_mean.specs.Work.{Look, Work, Got, Gives, Stops, Faulted, Missing, Wrong}
use Rattle.bc_law_locality.specs.Laws.{Extends}
use Rattle.bc_code.specs.declared.code.Code.{Code}
use Rattle.bc_code.specs.Given.{given_look, ids_of}
use Rattle.bc_code.specs.Instructions.{State, On, Over, Stuck, more, start}
use Rattle.bc_code.specs.Runs.{IsRight, ended, reads_over, run_over}
use Rattle.bc_code.specs.Translation.{Translates, most_instructions}

-- how many instructions an invocation takes at most: each turn pays for those of a unit
abbrev pub most_steps : ℕ
most_steps = most_instructions + most_instructions * most_turns

-- The code of a well-typed program, over any bodies, comes to what the program's run comes to there.
abbrev pub CodeRuns : Type 0
CodeRuns =
    (P : TypedProgram) (code : Code) (L : Look) (v : Invocation) → IsWellTyped P → Translates P code
    → IsRight (run_over P L v)
    → (n : ℕ) × (more (reads_over L v) code n (start code v) ≡ Over (ended (run_over P L v))) × (n ≤ most_steps)

-- At no moment of such a run is there no instruction, or are there no operands for it, or is one of the wrong kind.
pub record CodeIsNeverStuck : Type 0 where
  pub instruction :
      (P : TypedProgram) (code : Code) (L : Look) (v : Invocation) (n : ℕ) → IsWellTyped P → Translates P code → IsRight (run_over P L v)
      → more (reads_over L v) code n (start code v) ≡ Stuck → ⊥
  pub operands :
      (P : TypedProgram) (code : Code) (L : Look) (v : Invocation) (n : ℕ) (w : Work) → IsWellTyped P → Translates P code → IsRight (run_over P L v)
      → more (reads_over L v) code n (start code v) ≡ Over (Stops Wrong w) → ⊥

-- What goes on over some bodies goes on alike over more.
abbrev pub CodeOverMore : Type 0
CodeOverMore =
    (code : Code) (L M : Look) (v : Invocation) (n : ℕ) (s : State) → Extends L M
    → more (reads_over L v) code n (start code v) ≡ On s
    → more (reads_over M v) code n (start code v) ≡ On s

-- the bodies given are those that the run touched, in its order, up to the one that it is missing
abbrev pub Asked : {A : Type 0} → List Written → Got A → Type 0
Asked gs (Gives x w) = w.touched ≡ ids_of gs
Asked gs (Stops (Faulted f) w) = w.touched ≡ ids_of gs
Asked gs (Stops (Missing id) w) = w.touched ≡ ids_of gs ++ id ∷ []
Asked gs (Stops Wrong w) = w.touched ≡ ids_of gs

abbrev pub and_body : List Written → ℕ → Body → List Written
and_body gs id b = gs ++ record { id = id; body = b } ∷ []

-- It is so where the bodies of the parameters are given, and stays so where the body that is missing is given.
pub record AskedInOrder : Type 0 where
  pub first :
      (P : TypedProgram) (v : Invocation) (gs : List Written) → ids_of gs ≡ v.objects → are_different v.objects ≡ true
      → Asked gs (run_over P (given_look gs) v)
  pub next :
      (P : TypedProgram) (v : Invocation) (gs : List Written) (id : ℕ) (b : Body) (w : Work) (rest : List ℕ)
      → ids_of gs ≡ v.objects ++ rest → are_different v.objects ≡ true
      → Asked gs (run_over P (given_look gs) v)
      → run_over P (given_look gs) v ≡ Stops (Missing id) w
      → Asked (and_body gs id b) (run_over P (given_look (and_body gs id b)) v)

-- What the answers of a run say of the invocation.
use Rattle.std.proofs.Common.{◌≡◌, ℕ, ◌+◌, ◌<◌, List, ◌++◌, refl, sym, ◌∙◌, ap, subst, arith, lit<}
use Rattle.std.specs.Prelude.{slice_get, Some, Result, Ok, Err, IfOk, OnErr}
use Rattle.std.specs.declared.alloc.AllocError.{AllocError}
use Rattle.bc_data.specs.Typed.{TypedProgram}
use Rattle.bc_data.specs.declared.run.Changes.{Changes}
use Rattle.bc_data.specs.declared.run.Fault.{Fault}
use Rattle.bc_data.specs.declared.run.Invocation.{Invocation}
use Rattle.bc_data.specs.declared.run.Ran.TheVariants as ran
use Rattle.bc_data.specs.declared.run.Written.{Written}
use Rattle.bc_mean.specs.declared.plain.Plain.{Plain}
use Rattle.bc_mean.specs.Changes.{changes_between}
use Rattle.bc_mean.specs.Execute.{Flow, most_turns}
use Rattle.bc_mean.specs.Outcome.{body_outcome, body_run, ending}
use Rattle.bc_mean.specs.Work.{Look, Work, Got, Gives, Stops, Faulted, Missing, Wrong, look_of}
use Rattle.bc_law_soundness.proofs.Stuck.{never_stuck}
use Rattle.bc_law_locality.specs.Growth.{work_of as work_in}
use Rattle.bc_law_locality.specs.Laws.{Extends}
use Rattle.bc_code.specs.declared.code.Code.{Code}
use Rattle.bc_code.specs.Given.{given_look, ids_of}
use Rattle.bc_code.specs.Instructions.{Reads, Did, On, Over, Stuck, more, start}
use Rattle.bc_code.specs.Runs.{IsRight, ended, reads_over, run_over}
use Rattle.bc_code.specs.Translation.{most_instructions}
use Rattle.bc_law_code.specs.Laws.{Asked, most_steps}
use Rattle.bc_law_code.proofs.Asked.{IsWhole, asks_over_more, missing_ended, parameters_known, run_over_says, same_over_more}
use Rattle.bc_law_code.proofs.Whole.{code_is_never_stuck, code_runs}
use Rattle.bc_step.specs.declared.state.State.{State}
use Rattle.bc_step.specs.Area.{AgreesWith, AreaParts, given_of, reads_of, work_with}
use Rattle.bc_step.specs.State.{HasRule, KeepsGiven}
use Rattle.bc_step.specs.Stepping.{IsGenerated}
use Rattle.bc_step.specs.declared.area.End.TheVariants as end
use Rattle.bc_step.proofs.Changed.{changes_alike}
use Rattle.bc_machine.specs.declared.machine.Ended.TheVariants as ended
use Rattle.bc_machine.specs.declared.machine.Going.{Going}
use Rattle.bc_machine.specs.declared.machine.Going.TheVariants as going
use Rattle.bc_machine.specs.declared.machine.Machine.{Machine}
use Rattle.bc_machine.specs.Course.{CanRun, Comes, Halts, Lacks, Leaves, Reaches}
use Rattle.bc_machine.specs.Running.{IsAtExit, IsAtFault, IsInNeed, IsRunOf, IsRunning, Needs, Tells, runs_on, work_of}
use Rattle.bc_machine.proofs.Courses.{one_end, same_reads}
use Rattle.bc_machine.proofs.Stores.{extends_store, right_before, run_is_body}

-- an invocation on its way, over the bodies that it was given so far
pub record IsUnderWay (P : TypedProgram) (S : Plain) (code : Code) (v : Invocation) (gs : List Written) : Type 0 where
  pub run : IsRunOf P S code v
  pub agrees : AgreesWith S gs
  pub others : List ℕ
  pub first : ids_of gs ≡ v.objects ++ others
  pub asked : Asked gs (run_over P (given_look gs) v)

has_rule_from : (d : Did) → (d ≡ Stuck → ⊥) → ((w : Work) → d ≡ Over (Stops Wrong w) → ⊥) → HasRule d
has_rule_from (On s) there right = tt
has_rule_from (Over (Gives x w)) there right = tt
has_rule_from (Over (Stops (Faulted f) w)) there right = tt
has_rule_from (Over (Stops (Missing id) w)) there right = tt
has_rule_from (Over (Stops Wrong w)) there right = absurd (right w refl)
has_rule_from Stuck there right = absurd (there refl)

few_steps : most_steps < 18446744073709551615
unfolding most_instructions most_turns
few_steps = lit< tt

gave : (g : Got Flow) (w : Work) → ended g ≡ Gives tt w → (flow : Flow) × (g ≡ Gives flow w)
gave (Gives flow u) w e =
    let same : u ≡ w = cc in
    (flow, ap (Gives flow) same)
gave (Stops h u) w e = absurd (cc)

faulted : (g : Got Flow) (f : Fault) (w : Work) → ended g ≡ Stops (Faulted f) w → g ≡ Stops (Faulted f) w
faulted (Gives flow u) f w e = absurd (cc)
faulted (Stops h u) f w e =
    let halt : h ≡ Faulted f = cc in
    let work : u ≡ w = cc in
    cc

-- what an outcome says of the touched objects
pub touched_in : (T : Plain) (g : Got Flow) → (ending T g).touched ≡ (work_in g).touched
touched_in T (Gives flow w) = refl
touched_in T (Stops h w) = refl

module _ (P : TypedProgram) (S : Plain) (code : Code) where
  module _ (v : Invocation) (gs : List Written) (u : IsUnderWay P S code v gs) where
    abbrev L : Look
    L = given_look gs

    abbrev own : Got Flow
    own = run_over P L v

    abbrev at_start : Did
    at_start = start code v

    is_right : IsRight own
    is_right =
        right_before L own (run_over P (look_of S) v)
        (λ w e. (never_stuck P S v u.run.well_typed u.run.fits u.run.enabled).right w (sym (run_is_body P S v) ∙ e))
        (run_over_says P L (look_of S) v (extends_store S gs u.agrees) (parameters_known gs v.objects u.others u.first))

    rules : (n : ℕ) → HasRule (more (reads_over L v) code n at_start)
    rules n =
        has_rule_from _ (code_is_never_stuck.instruction P code L v n u.run.well_typed u.run.translated is_right)
        (λ w. code_is_never_stuck.operands P code L v n w u.run.well_typed u.run.translated is_right)

    at_end : (n : ℕ) (g : Got (Unit {0})) → more (reads_over L v) code n at_start ≡ Over g → ended own ≡ g
    at_end n g e =
        let c = code_runs P code L v u.run.well_typed u.run.translated is_right in
        one_end (reads_over L v) code at_start c.0 n (ended own) g c.1 e

    generated : IsGenerated code
    generated = record { program = P; well_typed = u.run.well_typed; translated = u.run.translated }

    last : (n : ℕ) × (more (reads_over L v) code n at_start ≡ Over (ended own)) × (n < 18446744073709551615)
    last =
        let c = code_runs P code L v u.run.well_typed u.run.translated is_right in
        let few = few_steps in
        let less : c.0 < 18446744073709551615 = omega (arith, c.2, few) in
        (c.0, c.1, less)

  -- an area whose invocation is on its way
  module _ (b : AreaParts) (u : IsUnderWay P S code b.invocation (given_of b.held)) where
    abbrev mine : Got Flow
    mine = run_over P (given_look (given_of b.held)) b.invocation

    abbrev from : Did
    from = start code b.invocation

    came_to : (n : ℕ) (g : Got (Unit {0})) → more (reads_of b) code n from ≡ Over g → ended mine ≡ g
    came_to = at_end b.invocation (given_of b.held) u

    -- The run in a store that has the bodies given is this one, where it was missing none.
    outcome_alike : (T : Plain) → AgreesWith T (given_of b.held) → (g : Got Flow) → mine ≡ g → IsWhole g → body_outcome P T b.invocation ≡ ending T g
    outcome_alike T agrees g e whole =
        let s = same_over_more P b.invocation (given_of b.held) (look_of T) (extends_store T (given_of b.held) agrees) u.asked (subst IsWhole (sym e) whole) in
        ap (ending T) (sym (run_is_body P T b.invocation) ∙ s.same ∙ e)

    runs_from : (t : State) (n : ℕ) → Reaches (reads_of b) code from n t b → IsRunning P S code (record { state = t; area = b })
    runs_from t n r = record {
      run = u.run;
      agrees = u.agrees;
      others = u.others;
      first = u.first;
      copies = r.copies;
      are = r.are;
      touched = r.touched;
      steps = n;
      reached = r.is;
      going_on = r.going_on;
      asked = u.asked;
    }

    needs : (id n : ℕ) → Lacks (reads_of b) code from id n → Needs P b id
    needs id n l = (l.work, missing_ended mine id l.work (came_to (n + 1) (Stops (Missing id) l.work) l.is))

    in_need : (id n : ℕ) → Lacks (reads_of b) code from id n → IsInNeed P b id
    in_need id n l =
        let need = needs id n l in
        let asks = λ (M : Look) (x : Extends (given_look (given_of b.held)) M).
        asks_over_more P b.invocation (given_of b.held) M id need.0 u.others u.first x u.asked need.1 in
        record {
          needs = need;
          new = (asks (given_look (given_of b.held)) (λ i c e. e)).unknown;
          next = λ T agrees.
              let f = asks (look_of T) (extends_store T (given_of b.held) agrees) in
              (f.rest, touched_in T (body_run P T (slice_get P.tasks b.invocation.task) b.invocation) ∙ ap (λ (g : Got Flow). (work_in g).touched) (sym (run_is_body P T b.invocation)) ∙ f.begins);
        }

    at_exit : (t : State) → Leaves (reads_of b) code from t b → IsAtExit P b
    at_exit t l =
        let w : Work = work_with b t.turns l.copies l.touched in
        let g = gave mine w (came_to l.steps (Gives tt w) l.is) in
        let order : l.touched ≡ ids_of (given_of b.held) = subst (Asked (given_of b.held)) g.1 u.asked in
        record {
          end = l.end;
          run = λ T agrees.
              outcome_alike T agrees (Gives g.0 w) g.1 tt
              ∙ ap (λ (c : Changes). record { ran = ran.Commit c; touched = l.touched }) (changes_alike T w (work_of b) l.are refl refl refl)
              ∙ ap (λ (ts : List ℕ). record { ran = ran.Commit (changes_between T (work_of b)); touched = ts }) order;
        }

    at_fault : (f : Fault) (n : ℕ) (w : Work) → more (reads_of b) code n from ≡ Over (Stops (Faulted f) w) → b.end ≡ Some (end.Fault f) → IsAtFault P b f
    at_fault f n w e is =
        let g : mine ≡ Stops (Faulted f) w = faulted mine f w (came_to n (Stops (Faulted f) w) e) in
        let order : w.touched ≡ ids_of (given_of b.held) = subst (Asked (given_of b.held)) g u.asked in
        record {
          end = is;
          run = λ T agrees. outcome_alike T agrees (Stops (Faulted f) w) g tt ∙ ap (λ (ts : List ℕ). record { ran = ran.Faulted f; touched = ts }) order;
        }

  module _ (m : Machine) (r : IsRunning P S code m) where
    under_way : IsUnderWay P S code m.area.invocation (given_of m.area.held)
    under_way = record { run = r.run; agrees = r.agrees; others = r.others; first = r.first; asked = r.asked }

    here : Reaches (reads_of m.area) code (start code m.area.invocation) r.steps m.state m.area
    here = record { copies = r.copies; touched = r.touched; are = r.are; is = r.reached; going_on = r.going_on }

    pub can_run : CanRun code m.state m.area
    can_run =
        let v = m.area.invocation in
        let gs = given_of m.area.held in
        let l = last v gs under_way in
        record {
          generated = generated v gs under_way;
          steps = r.steps;
          here = here;
          rules = rules v gs under_way;
          last = l.0;
          over = record { end = ended (own v gs under_way); is = l.1 };
          bound = l.2;
        }

    -- after some instructions
    module _ (t : State) (b : AreaParts) (kept : KeepsGiven m.area b) where
      still_under_way : IsUnderWay P S code b.invocation (given_of b.held)
      still_under_way =
          subst (λ (gs : List Written). IsUnderWay P S code b.invocation gs) (sym kept.given)
          (subst (λ (v : Invocation). IsUnderWay P S code v (given_of m.area.held)) (sym kept.invocation) under_way)

      moved : (F : Reads → Did → Type 0) → F (reads_of m.area) (start code m.area.invocation) → F (reads_of b) (start code b.invocation)
      moved F h =
          subst (λ (v : Invocation). F (reads_of b) (start code v)) (sym kept.invocation)
          (subst (λ (R : Reads). F R (start code m.area.invocation)) (sym (same_reads m.area b kept)) h)

      comes_runs : ((from : Did) (k : ℕ) → Reaches (reads_of m.area) code from k m.state m.area → Comes (reads_of m.area) code from t b) → IsRunning P S code (record { state = t; area = b })
      comes_runs comes =
          let c = moved (λ R from. Comes R code from t b) (comes (start code m.area.invocation) r.steps here) in
          runs_from b still_under_way t c.0 c.1

      halted : (g : Going) → ((from : Did) (k : ℕ) → Reaches (reads_of m.area) code from k m.state m.area → Halts (reads_of m.area) code from g t b) → Halts (reads_of b) code (start code b.invocation) g t b
      halted g halts = moved (λ R from. Halts R code from g t b) (halts (start code m.area.invocation) r.steps here)

      told : (g : Going) → Halts (reads_of b) code (start code b.invocation) g t b → Tells P b g
      told (going.Need id) h = in_need b still_under_way id h.0 h.2
      told (going.Finished ended.Commit) h = at_exit b still_under_way t h
      told (going.Finished (ended.Faulted f)) h = at_fault b still_under_way f h.0 h.1 h.2 h.3

      pub tells : (g : Going) → ((from : Did) (k : ℕ) → Reaches (reads_of m.area) code from k m.state m.area → Halts (reads_of m.area) code from g t b) → Tells P b g
      tells g halts = told g (halted g halts)

      pub still_runs :
          (result : Result Going AllocError)
          → IfOk result (λ g. (from : Did) (k : ℕ) → Reaches (reads_of m.area) code from k m.state m.area → Halts (reads_of m.area) code from g t b)
          → OnErr result ((from : Did) (k : ℕ) → Reaches (reads_of m.area) code from k m.state m.area → Comes (reads_of m.area) code from t b)
          → runs_on result (IsRunning P S code (record { state = t; area = b }))
      still_runs (Ok (going.Need id)) ok err = let h = halted (going.Need id) ok in runs_from b still_under_way t h.0 h.1
      still_runs (Ok (going.Finished e)) ok err = tt
      still_runs (Err e) ok err = comes_runs err

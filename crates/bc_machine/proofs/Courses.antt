-- Instructions of a run, one after another.
use Rattle.std.proofs.Common.{◌≡◌, ℕ, ◌+◌, ◌-◌, ◌≤◌, List, sym, ◌∙◌, ap, subst, arith}
use Rattle.std.specs.Prelude.{Result, Ok, Err, OnErr}
use Rattle.bc_data.specs.declared.run.Invocation.{Invocation}
use Rattle.bc_data.specs.declared.run.Written.{Written}
use Rattle.bc_mean.specs.Work.{Got}
use Rattle.bc_code.specs.declared.code.Code.{Code}
use Rattle.bc_code.specs.Given.{given_look}
use Rattle.bc_code.specs.Instructions.{Reads, Did, On, Over, more, start, step}
use Rattle.bc_law_code.proofs.Leads.{more_sum, over_stays}
use Rattle.bc_step.specs.declared.state.Did.{Did as Answer}
use Rattle.bc_step.specs.declared.state.Did.TheVariants as answer
use Rattle.bc_step.specs.declared.state.State.{State}
use Rattle.bc_step.specs.Area.{AreCopies, AreaParts, given_of, reads_of}
use Rattle.bc_step.specs.State.{Answers, HasRule, KeepsGiven, StaysPut, state_with}
use Rattle.bc_step.specs.Stepping.{CanStep, IsGenerated}
use Rattle.bc_machine.specs.declared.machine.Ended.TheVariants as ended
use Rattle.bc_machine.specs.declared.machine.Going.TheVariants as going
use Rattle.bc_machine.specs.Course.{Comes, Halts, IsOver, Reaches}

-- what the machine reads of an area stays, where the invocation and what was given do
pub same_reads : (a b : AreaParts) → KeepsGiven a b → reads_of b ≡ reads_of a
same_reads a b k =
    ap (λ (gs : List Written). record { look = given_look gs; objects = b.invocation.objects }) k.given
    ∙ ap (λ (objects : List ℕ). record { look = given_look (given_of a.held); objects = objects }) (ap (λ v. v.objects) k.invocation)

pub on_err_from : {A E : Type 0} (r : Result A E) (P : Type 0) → P → OnErr r P
on_err_from (Ok x) P h = tt
on_err_from (Err e) P h = h

pub keeps_more : (a b c : AreaParts) → KeepsGiven a b → KeepsGiven b c → KeepsGiven a c
keeps_more a b c k l = record {
  invocation = l.invocation ∙ k.invocation;
  given = l.given ∙ k.given;
  spare = omega (arith, k.spare, l.spare);
}

module _ (R : Reads) (code : Code) (from : Did) where
  -- one instruction more
  after_one : (n : ℕ) (s : State) (a : AreaParts) (r : Reaches R code from n s a) → more R code (n + 1) from ≡ step R code (state_with s a r.copies r.touched)
  after_one n s a r = more_sum R code n 1 from ∙ ap (more R code 1) r.is

  pub has_rule : ((n : ℕ) → HasRule (more R code n from)) → (n : ℕ) (s : State) (a : AreaParts) (r : Reaches R code from n s a) → HasRule (step R code (state_with s a r.copies r.touched))
  has_rule rules n s a r = subst HasRule (after_one n s a r) (rules (n + 1))

  stays_put : (n : ℕ) (s : State) (a : AreaParts) (t : State) (b : AreaParts) → StaysPut s a t b → Reaches R code from n s a → Reaches R code from n t b
  stays_put n s a t b p r = record {
    copies = r.copies;
    touched = r.touched;
    are = p.area.copies r.copies r.are;
    is = r.is ∙ ap On (sym (p.state r.copies r.touched));
    going_on = p.area.end ∙ r.going_on;
  }

  pub goes_on : (n : ℕ) (s : State) (a : AreaParts) (t : State) (b : AreaParts) (r : Reaches R code from n s a) → Answers answer.On s a t b (step R code (state_with s a r.copies r.touched)) → Reaches R code from (n + 1) t b
  goes_on n s a t b r h = record {
    copies = h.0.copies;
    touched = h.0.touched;
    are = h.0.are;
    is = after_one n s a r ∙ h.0.is;
    going_on = h.1 ∙ r.going_on;
  }

  pub comes : (n : ℕ) (s : State) (a : AreaParts) (t : State) (b : AreaParts) → StaysPut s a t b → Reaches R code from n s a → Comes R code from t b
  comes n s a t b p r = (n, stays_put n s a t b p r)

  -- what an answer says of the run
  abbrev pub After : State → AreaParts → Answer → Type 0
  After t b answer.On = Unit {0}
  After t b (answer.Need id) = Halts R code from (going.Need id) t b
  After t b answer.Exit = Halts R code from (going.Finished ended.Commit) t b
  After t b (answer.Fault f) = Halts R code from (going.Finished (ended.Faulted f)) t b

  pub after : (n : ℕ) (s : State) (a : AreaParts) (t : State) (b : AreaParts) (r : Reaches R code from n s a) (did : Answer) → Answers did s a t b (step R code (state_with s a r.copies r.touched)) → After t b did
  after n s a t b r answer.On h = tt
  after n s a t b r (answer.Need id) h = (n, stays_put n s a t b h.2 r, record { work = h.0; is = after_one n s a r ∙ h.1 })
  after n s a t b r answer.Exit h = record {
    steps = n + 1;
    copies = h.0.copies;
    touched = h.0.touched;
    are = h.0.are;
    is = after_one n s a r ∙ h.0.is;
    end = h.1;
  }
  after n s a t b r (answer.Fault f) h = (n + 1, h.0, after_one n s a r ∙ h.1, h.2)

  -- a run doesn't go on behind its end
  pub not_past : (m n : ℕ) (s : State) (a : AreaParts) → IsOver R code from m → m ≤ n → Reaches R code from n s a → ⊥
  not_past m n s a o le r =
      let sum : n ≡ m + (n - m) = omega arith in
      let over : more R code n from ≡ Over o.end = ap (λ k. more R code k from) sum ∙ more_sum R code m (n - m) from ∙ ap (more R code (n - m)) o.is ∙ over_stays R code (n - m) o.end in
      let on = r.is in
      cc

  -- two ends of one run are the same
  pub one_end : (m n : ℕ) (g h : Got (Unit {0})) → more R code m from ≡ Over g → more R code n from ≡ Over h → g ≡ h
  one_end m n g h e f =
      let swap : m + n ≡ n + m = omega arith in
      let x : more R code (m + n) from ≡ Over g = more_sum R code m n from ∙ ap (more R code n) e ∙ over_stays R code n g in
      let y : more R code (m + n) from ≡ Over h = ap (λ k. more R code k from) swap ∙ more_sum R code n m from ∙ ap (more R code m) f ∙ over_stays R code m h in
      cc

-- One instruction in a run that began over the same bodies.
module _ (code : Code) (first : AreaParts) (s : State) (a : AreaParts) (kept : KeepsGiven first a) where
  pub may_step :
      (n : ℕ)
      → IsGenerated code
      → ((k : ℕ) → HasRule (more (reads_of first) code k (start code first.invocation)))
      → Reaches (reads_of first) code (start code first.invocation) n s a
      → CanStep code s a
  may_step n generated rules r =
      let same = same_reads first a kept in
      record {
        generated = generated;
        going_on = r.going_on;
        copies = r.copies;
        touched = r.touched;
        are = r.are;
        steps = n;
        reached =
            ap (λ (R : Reads). more R code n (start code a.invocation)) same
            ∙ ap (λ (v : Invocation). more (reads_of first) code n (start code v)) kept.invocation
            ∙ r.is;
        rule =
            subst (λ (R : Reads). HasRule (step R code (state_with s a r.copies r.touched))) (sym same)
            (has_rule (reads_of first) code (start code first.invocation) rules n s a r);
      }

  module _ (did : Answer) (t : State) (b : AreaParts) (answers : (cs : List Written) (ts : List ℕ) → AreCopies cs a.held → Answers did s a t b (step (reads_of a) code (state_with s a cs ts))) where
    -- the answer over what the run began with
    answered : (cs : List Written) (ts : List ℕ) → AreCopies cs a.held → Answers did s a t b (step (reads_of first) code (state_with s a cs ts))
    answered cs ts are = subst (λ (R : Reads). Answers did s a t b (step R code (state_with s a cs ts))) (same_reads first a kept) (answers cs ts are)

    pub one_more : did ≡ answer.On → (from : Did) (n : ℕ) → Reaches (reads_of first) code from n s a → Reaches (reads_of first) code from (n + 1) t b
    one_more e from n r =
        goes_on (reads_of first) code from n s a t b r
        (subst (λ (d : Answer). Answers d s a t b (step (reads_of first) code (state_with s a r.copies r.touched))) e (answered r.copies r.touched r.are))

    pub at_halt : (d : Answer) → did ≡ d → (from : Did) (n : ℕ) → Reaches (reads_of first) code from n s a → After (reads_of first) code from t b d
    at_halt d e from n r = subst (After (reads_of first) code from t b) e (after (reads_of first) code from n s a t b r did (answered r.copies r.touched r.are))

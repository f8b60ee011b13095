-- Runs of one thread end.
use Rattle.std.proofs.Common.{◌≡◌, ℕ, zero, suc, ◌+◌, ◌-◌, ◌≤◌, Bool}
use Rattle.std.proofs.Common.{true, false, cond, ◌==◌, List, [], ◌∷◌, length, length-append, Option, Some, None, refl, sym, subst, ◌∙◌, arith}
use Rattle.std.proofs.lemmas.Bool.{eq-eqb, true≢false}
use Rattle.bc_data.specs.Typed.{TypedProgram}
use Rattle.bc_data.specs.declared.run.Invocation.{Invocation}
use Rattle.bc_data.specs.declared.run.Ran.{Ran}
use Rattle.bc_data.specs.declared.run.Ran.TheVariants as ran
use Rattle.bc_data.specs.declared.run.Stop.{Stop}
use Rattle.bc_data.specs.declared.run.Stop.TheVariants as stop
use Rattle.bc_mean.specs.declared.plain.Plain.{Plain}
use Rattle.bc_mean.specs.Changes.{apply_changes}
use Rattle.bc_mean.specs.Outcome.{outcome}
use Rattle.bc_mean.specs.Serial.{Course, committed, course_at_start, is_crowded, stopped}
use Rattle.bc_mean.specs.Serial.{serial_step, step_pending, step_ran, step_unless, try_commit}
use Rattle.bc_mean.specs.Sound.{StopsFor}
use Rattle.bc_mean.proofs.Sound.{keeps_sound}
use Rattle.bc_law_serial.specs.Laws.{HasEnd, RunsEnd, SerialRunsEnd}

module _ (P : TypedProgram) (limit : ℕ) where
  abbrev End : Course → Type 0
  End = HasEnd P limit

  -- one that has ended is its own end
  ended : (r : Course) (s : Stop) → r.ended ≡ Some s → End r
  ended r s e = record { course = r; reason = s; ends = record { steps = 0; reached = refl; ended = e } }

  -- where it ends after a step, it ends
  step_more : (r : Course) → End (serial_step P limit r) → End r
  step_more r h = record {
    course = h.course;
    reason = h.reason;
    ends = record { steps = suc h.ends.steps; reached = h.ends.reached; ended = h.ends.ended };
  }

  -- where the limit is met there is no commit, and elsewhere it ends behind the commit
  by_limits :
      (met crowded : Bool) (s t : Stop) (r q : Course)
      → (met ≡ false → End q)
      → End (cond met (stopped s r) (cond crowded (stopped t r) q))
  by_limits true crowded s t r q h = ended (stopped s r) s refl
  by_limits false true s t r q h = ended (stopped t r) t refl
  by_limits false false s t r q h = h refl

  -- Wherever so many commits are left, the run ends.
  abbrev EndsWith : ℕ → Type 0
  EndsWith left = (r : Course) → r.ended ≡ None → length r.history + left ≡ limit → End r

  -- what is known already where so many commits are left
  abbrev Behind : ℕ → Type 0
  Behind zero = Unit {0}
  Behind (suc n) = EndsWith n

  module _ (v : Invocation) (rest : List Invocation) (r : Course) where
    commits :
        (left : ℕ) → Behind left → (T : Plain)
        → length r.history + left ≡ limit
        → End (try_commit P limit T v rest r)
    commits zero h T l =
        by_limits (length r.history == limit) (is_crowded P T) (stop.Spent v) (stop.Crowded v)
        r (committed P T v rest r)
        (λ unmet. absurd (true≢false (sym (eq-eqb (length r.history) limit (omega (arith, l))) ∙ unmet)))
    commits (suc n) h T l =
        by_limits (length r.history == limit) (is_crowded P T) (stop.Spent v) (stop.Crowded v)
        r (committed P T v rest r)
        (λ unmet. h (committed P T v rest r) refl (omega (arith, l, length-append r.history (v ∷ []))))

  -- The first pending invocation runs: the store is that of a commit then, or the rest is pending.
  runs :
      (left : ℕ) (v : Invocation) (rest : List Invocation) (r : Course)
      → ((q : Course) → q.ended ≡ None → length q.history + left ≡ limit → End (step_pending P limit rest q))
      → Behind left
      → r.ended ≡ None
      → length r.history + left ≡ limit
      → (n : Ran) (touched : List ℕ)
      → End (step_ran P limit n touched v rest r)
  runs left v rest r later h e l (ran.Commit c) touched = commits v rest r left h (apply_changes r.store c) l
  runs left v rest r later h e l (ran.Faulted f) touched =
      let q = step_ran P limit (ran.Faulted f) touched v rest r in
      step_more q (subst (λ (o : Option Stop). End (step_unless P limit o q)) (sym e) (later q e l))

  going :
      (left : ℕ) → Behind left → (pending : List Invocation) (r : Course)
      → r.ended ≡ None
      → length r.history + left ≡ limit
      → End (step_pending P limit pending r)
  going left h [] r e l = ended (stopped stop.End r) stop.End refl
  going left h (v ∷ rest) r e l =
      runs left v rest r (going left h rest) h e l (outcome P r.store v).ran (outcome P r.store v).touched

  -- the run goes on where no stop is set
  goes_on : (left : ℕ) → Behind left → EndsWith left
  goes_on left h r e l =
      step_more r (subst (λ (o : Option Stop). End (step_unless P limit o r)) (sym e) (going left h r.pending r e l))

  all_end : (left : ℕ) → EndsWith left
  all_end zero = goes_on zero tt
  all_end (suc n) = goes_on (suc n) (all_end n)

  ends : (o : Option Stop) (r : Course) → r.ended ≡ o → length r.history ≤ limit → End r
  ends (Some s) r e l = ended r s e
  ends None r e l = all_end (limit - length r.history) r e (omega (arith, l))

pub runs_end : RunsEnd
runs_end P limit from within = ends P limit from.ended from refl within

-- a stop that tells something isn't want of memory
told : (P : TypedProgram) (limit : ℕ) (r : Course) (s : Stop) → StopsFor P limit r (Some s) → s ≡ stop.Memory → ⊥
told P limit r s tells e = subst (λ (t : Stop). StopsFor P limit r (Some t)) e tells

pub serial_runs_end : SerialRunsEnd
serial_runs_end P input limit =
    let start = course_at_start P input in
    let h = runs_end P limit start (omega arith) in
    let sound = keeps_sound.end P input limit start h.course h.reason (keeps_sound.start P input limit) h.ends in
    record {
      course = h.course;
      reason = h.reason;
      ends = h.ends;
      told = told P limit h.course h.reason (subst (StopsFor P limit h.course) h.ends.ended sound.stop);
      sound = sound;
    }

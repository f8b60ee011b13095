-- The code of a task, and so whole runs.
use Rattle.std.proofs.Common.{◌≡◌, ℕ, pos, ◌+◌, ◌-◌, ◌*◌, ◌≤◌, List, [], ◌++◌, length, map, replicate, refl, sym, ap, ◌∙◌, subst, arith}
use Rattle.std.proofs.lemmas.List.Elements.{recursion_from_All}
use Rattle.std.specs.Prelude.{slice_get, Option, Some, None}
use Rattle.bc_data.specs.declared.run.Invocation.{Invocation}
use Rattle.bc_data.specs.declared.run.TagRef.TheVariants as tag
use Rattle.bc_data.specs.declared.run.Value.TheVariants as value
use Rattle.bc_data.specs.Typed.{TypedParam, TypedTask, TypedProgram}
use Rattle.bc_data.specs.TypedBodies.{InTask}
use Rattle.bc_data.specs.WellTyped.{IsTask, IsWellTyped, task_start}
use Rattle.bc_mean.specs.Evaluate.{Frame}
use Rattle.bc_mean.specs.Execute.{Flow, Goes, Returns, Leaves, calls, execute_task, most_turns, task_frame}
use Rattle.bc_mean.specs.Outcome.{work_at_start}
use Rattle.bc_mean.specs.Work.{Look, Work, Got, Gives, Stops, Faulted, Missing, Wrong, and_then}
use Rattle.bc_code.specs.declared.code.Code.{Code}
use Rattle.bc_code.specs.declared.code.Unit.{Unit as CodeUnit}
use Rattle.bc_code.specs.Instructions.{Did, On, Over, Stuck, first_frame, goes, more, start, start_in}
use Rattle.bc_code.specs.Runs.{IsRight, ended, reads_over, run_over, task_over}
use Rattle.bc_code.specs.Translation.{Translates, past_all, most_instructions, IsTaskUnit}
use Rattle.bc_law_code.specs.Laws.{CodeIsNeverStuck, CodeRuns}
use Rattle.bc_law_code.proofs.Bodies.{IsGround, Standing, here, one_at}
use Rattle.bc_law_code.proofs.Callables.{at_place}
use Rattle.bc_law_code.proofs.Calls.{calls_run, weighs}
use Rattle.bc_law_code.proofs.Costs.{weights}
use Rattle.bc_law_code.proofs.Leads.{Ground, Leads, goes_then, here_now, more_sum, over_stays, step_to, stuck_stays, wider, world}
use Rattle.bc_law_code.proofs.Lowers.{lower_gives}
use Rattle.bc_law_code.proofs.Statements.{flows, statements_run}

abbrev exits : Got Flow → Got (Unit {0})
exits g = and_then g (λ _ w. Gives (tt {0}) w)

abbrev is_over : Unit {0} → Work → Did
is_over x w = Over (Gives tt w)

exits_over : (g : Got Flow) → goes (exits g) is_over ≡ Over (ended g)
exits_over (Gives flow w) = refl
exits_over (Stops h w) = refl

exits_right : (g : Got Flow) → IsRight g → IsRight (exits g)
exits_right (Gives flow w) r = tt
exits_right (Stops (Faulted f) w) r = tt
exits_right (Stops (Missing id) w) r = tt
exits_right (Stops Wrong w) r = r

module _ (G : Ground) (ok : IsGround G) (v : Invocation) where
  exit_runs :
      (S : Standing G) (t : TypedTask) (is : IsTaskUnit G.program.classes t S.unit) (params : List ℕ) (flow : Flow) (w : Work)
      → Leads G w.turns 1 (flows S (InTask params) (past_all G.program.classes 0 t.body) [] flow w) (Gives tt w) is_over
  exit_runs S t is params (Goes f) w = step_to (one_at S (past_all G.program.classes 0 t.body) f [] w is.exit) lower_gives
  exit_runs S t is params (Returns x) w = here_now (omega arith)
  exit_runs S t is params Leaves w = here_now (omega arith)

  task_runs :
      (t : TypedTask) (u : CodeUnit) (w : Work) → slice_get G.code.units v.task ≡ Some u → IsTaskUnit G.program.classes t u → IsTask G.program t
      → Leads G w.turns G.most (On (record { current = record { unit = v.task; next = 0; frame = first_frame u v }; callers = []; stack = []; work = w })) (exits (execute_task (world G) t v w)) is_over
  task_runs t u w there is typed =
      let S : Standing G = record {
        number = v.task;
        unit = u;
        there = there;
        callers = [];
        depth = 0;
        deep = refl;
        calls = calls (world G) most_turns 0;
        runs = calls_run G ok most_turns 0;
      } in
      let K = G.program.classes in
      let params : List ℕ = map (λ (p : TypedParam). p.class) t.params in
      let same : task_frame t v ≡ first_frame u v =
      ap (λ (k : ℕ). record { slots = map value.Old v.objects ++ replicate (k - length v.objects) (value.Int (pos 0)); tags = map tag.Old v.tags ++ replicate (t.tags - length v.tags) (tag.New 0) }) (sym is.locals)
      ∙ ap (λ (k : ℕ). record { slots = map value.Old v.objects ++ replicate (u.locals - length v.objects) (value.Int (pos 0)); tags = map tag.Old v.tags ++ replicate (k - length v.tags) (tag.New 0) }) (sym is.tags) in
      let fits : weights K t.body + 1 ≤ G.most = weighs K t.body G.most 1 (length u.code) is.ends is.short ok.room in
      let room : weights K t.body ≤ G.most = omega (arith, fits) in
      subst (λ (f : Frame). Leads G w.turns G.most (On (here S 0 f [] w)) (exits (execute_task (world G) t v w)) is_over) same
      (wider fits
      (goes_then (statements_run ok S (InTask params) (length G.program.tag_types) t.locals t.tags most_turns t.body (task_frame t v) (task_start t) typed.behind 0 [] w room typed.body is.body)
      (λ flow s. exit_runs S t is params flow s)))

-- code that leads to an end so, in a bounded number of instructions
record Ends (code : Code) (L : Look) (v : Invocation) (most : ℕ) (g : Got Flow) : Type 0 where
  steps : ℕ
  is : more (reads_over L v) code steps (start code v) ≡ Over (ended g)
  bound : steps ≤ most + most * most_turns

code_ends :
    (P : TypedProgram) (code : Code) (L : Look) (v : Invocation) (most : ℕ) → most_instructions ≤ most → IsWellTyped P → Translates P code
    → (o : Option TypedTask) → slice_get P.tasks v.task ≡ o → IsRight (task_over P L o v) → Ends code L v most (task_over P L o v)
code_ends P code L v most room typed translates None e right = absurd right
code_ends P code L v most room typed translates (Some t) e right =
    let G : Ground = record { program = P; code = code; look = L; objects = v.objects; most = most } in
    let ok : IsGround G = record { translates = translates; typed = typed; room = room } in
    let u = translates.tasks v.task t e in
    let is_task = at_place (IsTask P) P.tasks v.task t (recursion_from_All (IsTask P) P.tasks typed.tasks) e in
    let l = task_runs G ok v t u.0 (work_at_start v) u.1 u.2 is_task in
    let g : Got Flow = task_over P L (Some t) v in
    let r = exits_right g right in
    let begins = ap (λ (o : Option CodeUnit). more (reads_over L v) code l.steps (start_in o v)) u.1 in
    record { steps = l.steps; is = begins ∙ l.is r ∙ exits_over g; bound = omega (arith, l.bound r) }

pub code_runs : CodeRuns
code_runs P code L v typed translates right =
    let l = code_ends P code L v most_instructions (omega arith) typed translates (slice_get P.tasks v.task) refl right in
    (l.steps, l.is, l.bound)

-- Wherever code came to, it ends as its run does.
later :
    (P : TypedProgram) (code : Code) (L : Look) (v : Invocation) (n : ℕ) (d : Did) → IsWellTyped P → Translates P code → IsRight (run_over P L v)
    → ((m : ℕ) → more (reads_over L v) code m d ≡ d) → more (reads_over L v) code n (start code v) ≡ d → d ≡ Over (ended (run_over P L v))
later P code L v n d typed translates right stays e =
    let R = reads_over L v in
    let l = code_runs P code L v typed translates right in
    let turned : l.0 + n ≡ n + l.0 = omega arith in
    sym (more_sum R code n l.0 (start code v) ∙ ap (more R code l.0) e ∙ stays l.0)
    ∙ sym (ap (λ k. more R code k (start code v)) turned)
    ∙ more_sum R code l.0 n (start code v)
    ∙ ap (more R code n) l.1
    ∙ over_stays R code n (ended (run_over P L v))

right_not_wrong : (g : Got Flow) (w : Work) → IsRight g → Over (Stops Wrong w) ≡ Over (ended g) → ⊥
right_not_wrong (Gives flow v) w r e = absurd (cc)
right_not_wrong (Stops (Faulted f) v) w r e = absurd (cc)
right_not_wrong (Stops (Missing id) v) w r e = absurd (cc)
right_not_wrong (Stops Wrong v) w r e = absurd r

pub code_is_never_stuck : CodeIsNeverStuck
code_is_never_stuck = record {
  instruction = λ P code L v n typed translates right e.
      let s = later P code L v n Stuck typed translates right (stuck_stays (reads_over L v) code) e in
      absurd (cc);
  operands = λ P code L v n w typed translates right e.
      right_not_wrong (run_over P L v) w right
      (later P code L v n (Over (Stops Wrong w)) typed translates right (λ m. over_stays (reads_over L v) code m (Stops Wrong w)) e);
}

-- The units of methods and constructors do what calls of them do.
use Rattle.std.proofs.Common.{◌≡◌, ℕ, pos, zero, suc, ◌+◌, ◌-◌, ◌≤◌, List, [], ◌∷◌, ◌++◌, length, replicate, refl, sym, ap, ◌∙◌, subst, arith}
use Rattle.std.specs.Prelude.{slice_get, Option, Some, None}
use Rattle.bc_data.specs.declared.program.Shape.{Shape}
use Rattle.bc_data.specs.declared.run.Value.{Value}
use Rattle.bc_data.specs.declared.run.Value.TheVariants as value
use Rattle.bc_data.specs.Typed.{TypedMethod, TypedClass, TypedStatements}
use Rattle.bc_data.specs.TypedBodies.{InMethod}
use Rattle.bc_mean.specs.Evaluate.{Frame}
use Rattle.bc_mean.specs.Execute.{Flow, Goes, Returns, Leaves, calls, execute_all, method_frame, returned}
use Rattle.bc_mean.specs.Work.{Work, and_then}
use Rattle.bc_code.specs.declared.code.Unit.{Unit as CodeUnit}
use Rattle.bc_code.specs.Instructions.{Activation, On, enter_unit, left, unit_frame}
use Rattle.bc_code.specs.Translation.{text_of, past_all, behind_end, most_instructions, IsEnd}
use Rattle.bc_law_code.proofs.Bodies.{CallsRun, IsCallable, IsGround, Standing, here, one_at, result_on}
use Rattle.bc_law_code.proofs.Costs.{all_pass, weights}
use Rattle.bc_law_code.proofs.Leads.{Ground, Leads, goes_then, here_now, pays_then, step_on, step_to, wider, world, wrong_now}
use Rattle.bc_law_code.proofs.Lowers.{lower_enter, lower_gives, used_enter}
use Rattle.bc_law_code.proofs.Statements.{flows, statements_run}

-- the end of a method
abbrev cost_end : Option Shape → ℕ
cost_end None = 1
cost_end (Some sh) = 1 + 1

end_passes : (r : Option Shape) (p : ℕ) → behind_end r p ≡ p + cost_end r
end_passes None p = refl
end_passes (Some sh) p = omega arith

-- a body whose code fits a unit, with the instructions behind it
pub weighs : (K : List TypedClass) (s : TypedStatements) (most c n : ℕ) → n ≡ past_all K 0 s + c → n ≤ most_instructions → most_instructions ≤ most → weights K s + c ≤ most
weighs K s most c n e short room = omega (arith, all_pass K s 0)

module _ (G : Ground) (ok : IsGround G) where
  end_runs :
      (S : Standing G) (r : Option Shape) (q : ℕ) (st : List Value) (flow : Flow) (w : Work) → IsEnd (text_of S.unit) q r
      → Leads G w.turns (cost_end r) (flows S (InMethod r) q st flow w) (returned flow w) (λ x v. left S.callers (result_on r x st) v)
  end_runs S None q st (Goes f) w has = step_to (one_at S q f st w has) lower_gives
  end_runs S (Some sh) q st (Goes f) w has =
      step_on {c = 1} (one_at S q f st w has.0) (step_to (one_at S (q + 1) f (value.Null ∷ st) w has.1) lower_gives)
  end_runs S r q st (Returns x) w has = here_now (omega arith)
  end_runs S r q st Leaves w has = wrong_now

  method_runs :
      (u : ℕ) (m : TypedMethod) (xs : List Value) (fs : List Activation) (depth n : ℕ) (st : List Value) (w : Work) → IsCallable G u m → length fs ≡ depth → CallsRun G depth (calls (world G) n depth)
      → Leads G w.turns G.most (enter_unit u (slice_get G.code.units u) xs fs st w) (and_then (execute_all (world G) (calls (world G) n depth) n (method_frame m xs) m.body w) returned) (λ x v. left fs (result_on m.result x st) v)
  method_runs u m xs fs depth n st w callable deep runs =
      let S : Standing G = record {
        number = u;
        unit = callable.unit;
        there = callable.there;
        callers = fs;
        depth = depth;
        deep = deep;
        calls = calls (world G) n depth;
        runs = runs;
      } in
      let K = G.program.classes in
      let is = callable.is in
      let same : method_frame m xs ≡ unit_frame callable.unit xs = ap (λ (k : ℕ). record { slots = xs ++ replicate (k - length xs) (value.Int (pos 0)); tags = [] }) (sym is.locals) in
      let ends = end_passes m.result (past_all K 0 m.body) in
      let fits : weights K m.body + cost_end m.result ≤ G.most = weighs K m.body G.most (cost_end m.result) (length callable.unit.code) (is.ends ∙ ends) is.short ok.room in
      let room : weights K m.body ≤ G.most = omega (arith, fits) in
      subst (λ (o : Option CodeUnit). Leads G w.turns G.most (enter_unit u o xs fs st w) (and_then (execute_all (world G) (calls (world G) n depth) n (method_frame m xs) m.body w) returned) (λ x v. left fs (result_on m.result x st) v)) (sym callable.there)
      (subst (λ (f : Frame). Leads G w.turns G.most (On (here S 0 f st w)) (and_then (execute_all (world G) (calls (world G) n depth) n (method_frame m xs) m.body w) returned) (λ x v. left fs (result_on m.result x st) v)) same
      (wider fits
      (goes_then (statements_run ok S (InMethod m.result) (length G.program.tag_types) m.locals 0 n m.body (method_frame m xs) callable.before callable.behind 0 st w room callable.typed is.body)
      (λ flow v. end_runs S m.result (past_all K 0 m.body) st flow v is.end))))

  pub calls_run : (n depth : ℕ) → CallsRun G depth (calls (world G) n depth)
  calls_run zero depth u m at xs a fs st w callable deep =
      pays_then {c = 0} {d = 0} 0 (omega arith) (omega arith) (used_enter at depth w) (lower_enter at depth w) refl (λ _ v. wrong_now)
  calls_run (suc n) depth u m at xs a fs st w callable deep =
      let deeper : length (a ∷ fs) ≡ depth + 1 = omega arith in
      pays_then {c = 0} {d = G.most} 0 (omega arith) (omega arith) (used_enter at depth w) (lower_enter at depth w) refl (λ _ v.
      method_runs u m xs (a ∷ fs) (depth + 1) n st v callable deeper (calls_run n (depth + 1)))

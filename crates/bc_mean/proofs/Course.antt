-- The steps of a run, and replays.
use Rattle.std.proofs.Common.{◌≡◌, ℕ, zero, suc, List, [], ◌∷◌, ◌++◌, refl, sym, ap, subst, ◌∙◌}
use Rattle.std.specs.Prelude.{Option, Some, None, IsSome, option_and_then}
use Rattle.bc_data.specs.Typed.{TypedProgram}
use Rattle.bc_data.specs.declared.run.Invocation.{Invocation}
use Rattle.bc_data.specs.declared.run.Stop.{Stop}
use Rattle.bc_mean.specs.declared.plain.Plain.{Plain}
use Rattle.bc_mean.specs.Store.{start_store}
use Rattle.bc_mean.specs.Serial.{Course, after_commit, replay_from, serial_step, serial_steps, step_unless}
use Rattle.bc_mean.specs.Laws.{EndsOnce, ReplayPrefix}

-- a course that has ended stays as it is
pub step_at_end : (P : TypedProgram) (limit : ℕ) (r : Course) (s : Stop) → r.ended ≡ Some s → serial_step P limit r ≡ r
step_at_end P limit r s e = ap (λ (o : Option Stop). step_unless P limit o r) e

pub steps_at_end : (P : TypedProgram) (limit n : ℕ) (r : Course) (s : Stop) → r.ended ≡ Some s → serial_steps P limit n r ≡ r
steps_at_end P limit zero r s e = refl
steps_at_end P limit (suc n) r s e = ap (serial_steps P limit n) (step_at_end P limit r s e) ∙ steps_at_end P limit n r s e

-- of two numbers of steps the course has ended after the first, and so it is the same after the other
pub one_course : (P : TypedProgram) (limit : ℕ) (m n : ℕ) (from r q : Course) (s t : Stop) → serial_steps P limit m from ≡ r → r.ended ≡ Some s → serial_steps P limit n from ≡ q → q.ended ≡ Some t → r ≡ q
one_course P limit zero n from r q s t a e b f = sym (sym b ∙ (ap (serial_steps P limit n) a ∙ steps_at_end P limit n r s e))
one_course P limit (suc m) zero from r q s t a e b f = sym a ∙ (ap (serial_steps P limit (suc m)) b ∙ steps_at_end P limit (suc m) q t f)
one_course P limit (suc m) (suc n) from r q s t a e b f = one_course P limit m n (serial_step P limit from) r q s t a e b f

some_inside : {A : Type 0} {x y : A} → Some x ≡ Some y → x ≡ y
some_inside e = cc

pub ends_once : EndsOnce
ends_once P limit from r q s t a b =
    let same : r ≡ q = one_course P limit a.steps b.steps from r q s t a.reached a.ended b.reached b.ended in
    (same, some_inside (sym a.ended ∙ (ap (λ (c : Course). c.ended) same ∙ b.ended)))

-- a history is replayed part by part
pub replay_parts : (P : TypedProgram) (S : Plain) (history more : List Invocation) → replay_from P S (history ++ more) ≡ option_and_then (λ T. replay_from P T more) (replay_from P S history)
replay_parts P S [] more = refl
replay_parts P S (v ∷ vs) more = each (after_commit P S v) (λ T. replay_parts P T vs more)
  where
    each : (o : Option Plain) →
        ((T : Plain) → replay_from P T (vs ++ more) ≡ option_and_then (λ U. replay_from P U more) (replay_from P T vs)) →
        option_and_then (λ T. replay_from P T (vs ++ more)) o ≡ option_and_then (λ T. replay_from P T more) (option_and_then (λ T. replay_from P T vs) o)
    each None h = refl
    each (Some T) h = h T

first_part : {A : Type 0} (o : Option A) (f : A → Option A) → IsSome (option_and_then f o) → IsSome o
first_part None f h = h
first_part (Some x) f h = refl

pub replay_prefix : ReplayPrefix
replay_prefix P input history more h = first_part (replay_from P (start_store input) history) (λ T. replay_from P T more) (subst (λ (o : Option Plain). IsSome o) (replay_parts P (start_store input) history more) h)

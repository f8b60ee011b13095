-- The run ends: each turn leaves less to do.
use Rattle.std.proofs.Common.{◌≡◌, ℕ, suc, ◌+◌, ◌-◌, ◌*◌, ◌<◌, ◌≤◌, Bool, true, false, cond, ◌==◌, List, [], ◌∷◌, length, length-append, add-one, Option, Some, None, refl, sym, ap, subst, ◌∙◌, arith}
use Rattle.std.specs.Prelude.{is_some}
use Rattle.std.specs.List.{list_any}
use Rattle.std.proofs.lemmas.Bool.{ltb-false}
use Rattle.bc_data.specs.declared.run.Invocation.{Invocation}
use Rattle.bc_data.specs.declared.run.Ran.{Ran}
use Rattle.bc_data.specs.declared.run.Ran.TheVariants as ran
use Rattle.bc_data.specs.declared.run.Stop.{Stop}
use Rattle.bc_data.specs.declared.run.Stop.TheVariants as stop
use Rattle.bc_mean.specs.Changes.{apply_changes}
use Rattle.bc_mean.specs.Enabled.{all_enabled}
use Rattle.bc_mean.specs.Outcome.{outcome}
use Rattle.bc_mean.specs.Serial.{Course, committed, is_crowded, serial_step, step_pending, step_ran, step_unless, stopped}
use Rattle.bc_book_events.specs.Book.{BookState}
use Rattle.bc_book_events.specs.Sound.{IsSoundBook}
use Rattle.bc_book_events.specs.Turns.{IsAt, IsSameRun, turn}
use Rattle.bc_book_events.proofs.Counted.{enabled_counted}
use Rattle.bc_book_events.proofs.Turns.{turns_are_steps}
use Rattle.bc_serial.specs.Run.{course_of}

-- Nothing is left to do where a stop is set. Elsewhere there is one turn at most for each pending invocation, and for each commit
-- that is left and all that it may leave enabled.
abbrev pub left_to_do : Option Stop → ℕ → ℕ → ℕ
left_to_do (Some s) commits pending = 0
left_to_do None commits pending = suc (commits * 262145 + pending)

abbrev pub measure : BookState → ℕ
measure b = left_to_do b.stop (b.limit - length b.history) (length b.pending)

-- no more are pending than may be enabled
pub few_pending : (b : BookState) → IsSoundBook b → length b.pending ≤ 262144
few_pending b sound =
    let counted = enabled_counted b sound.exact (λ k d l. (sound.failing k d l).enabled) in
    let few : length (all_enabled b.program b.store) ≤ 262144 = ltb-false 262144 (length (all_enabled b.program b.store)) sound.roomy in
    omega (arith, counted, few)

module _ (b d : BookState) (sound : IsSoundBook d) (going : b.stop ≡ None) (same : IsSameRun b d) where
  abbrev before : ℕ
  before = suc ((b.limit - length b.history) * 262145 + length b.pending)

  before_is : measure b ≡ before
  before_is = ap (λ (o : Option Stop). left_to_do o (b.limit - length b.history) (length b.pending)) going

  after_is : (o : Option Stop) → d.stop ≡ o → measure d ≡ left_to_do o (b.limit - length d.history) (length d.pending)
  after_is o e =
      ap (λ (p : Option Stop). left_to_do p (d.limit - length d.history) (length d.pending)) e
      ∙ ap (λ (limit : ℕ). left_to_do o (limit - length d.history) (length d.pending)) same.limit

  abbrev Falls : Type 0
  Falls = measure d < measure b

  over : (s : Stop) → d.stop ≡ Some s → Falls
  over s e = omega (arith, before_is, after_is (Some s) e)

  fails : d.stop ≡ None → length d.history ≡ length b.history → length d.pending + 1 ≡ length b.pending → Falls
  fails e history pending =
      let after = after_is None e ∙ ap (λ (n : ℕ). suc ((b.limit - n) * 262145 + length d.pending)) history in
      omega (arith, before_is, after, pending)

  -- one commit less is left, which outweighs all that may be pending
  outweighs : (limit n m p q x y : ℕ) → m ≡ n + 1 → m ≤ limit → q ≤ 262144 → x ≡ suc ((limit - n) * 262145 + p) → y ≡ suc ((limit - m) * 262145 + q) → y < x
  outweighs limit n m p q x y e l few f g = omega (arith, e, l, few, f, g)

  commits : d.stop ≡ None → length d.history ≡ length b.history + 1 → Falls
  commits e history =
      let within : length d.history ≤ b.limit = subst (λ (limit : ℕ). length d.history ≤ limit) same.limit sound.within in
      outweighs b.limit (length b.history) (length d.history) (length b.pending) (length d.pending) (measure b) (measure d)
      history within (few_pending d sound) before_is (after_is None e)

  by_limits : (x y : Bool) (s t : Stop) (r : Course) → (IsAt d r → Falls) → IsAt d (cond x (stopped s (course_of b)) (cond y (stopped t (course_of b)) r)) → Falls
  by_limits true y s t r h at = over s at.stop
  by_limits false true s t r h at = over t at.stop
  by_limits false false s t r h at = h at

  by_ran : (n : Ran) (touched : List ℕ) (v : Invocation) (rest : List Invocation) → b.pending ≡ v ∷ rest → IsAt d (step_ran b.program b.limit n touched v rest (course_of b)) → Falls
  by_ran (ran.Faulted f) touched v rest e at =
      let none : d.stop ≡ None = at.stop ∙ going in
      fails none (ap length at.history) (ap (λ (vs : List Invocation). length vs + 1) (at.pending none) ∙ add-one (length rest) ∙ sym (ap length e))
  by_ran (ran.Commit c) touched v rest e at =
      let T = apply_changes b.store c in
      by_limits (length b.history == b.limit) (is_crowded b.program T) (stop.Spent v) (stop.Crowded v) (committed b.program T v rest (course_of b))
      (λ joined. commits joined.stop (ap length joined.history ∙ length-append b.history (v ∷ []))) at

  by_pending : (vs : List Invocation) → b.pending ≡ vs → IsAt d (step_pending b.program b.limit vs (course_of b)) → Falls
  by_pending [] e at = over stop.End at.stop
  by_pending (v ∷ rest) e at = by_ran (outcome b.program b.store v).ran (outcome b.program b.store v).touched v rest e at

  step_falls : IsAt d (serial_step b.program b.limit (course_of b)) → Falls
  step_falls at = by_pending b.pending refl (subst (λ (o : Option Stop). IsAt d (step_unless b.program b.limit o (course_of b))) going at)

pub turn_falls : (b : BookState) → b.stop ≡ None → list_any is_some b.running ≡ false → IsSoundBook (turn 0 b) → measure (turn 0 b) < measure b
turn_falls b going idle sound =
    step_falls b (turn 0 b) sound going (turns_are_steps.same 0 b)
    (turns_are_steps.one 0 b (course_of b) (record { store = refl; history = refl; failures = refl; stop = refl; pending = λ _. refl; idle = idle }))

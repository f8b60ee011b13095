-- What is known of a run that is over.
use Rattle.std.proofs.Common.{◌≡◌, ℕ, Bool, true, false, not, ◌&&◌, ◌==◌, cond, inl, inr, List, [], ◌∷◌, get_or, length, map, Option, Some, None, refl, sym, ap, subst, ◌∙◌, arith}
use Rattle.std.specs.Prelude.{is_some}
use Rattle.std.specs.List.{AllByRecursion, list_any}
use Rattle.std.proofs.lemmas.Bool.{and_parts, eqb-true, false≢true, false_from_ne_true, or_cases, true≢false}
use Rattle.std.proofs.lemmas.List.Elements.{All-from_recursion, recursion_from_All}
use Rattle.std.proofs.lemmas.Option.{same_Some}
use Rattle.bc_data.specs.Typed.{TypedProgram}
use Rattle.bc_data.specs.declared.run.Invocation.{Invocation}
use Rattle.bc_data.specs.declared.run.Stop.{Stop}
use Rattle.bc_data.specs.declared.run.Stop.TheVariants as stop
use Rattle.bc_mean.specs.declared.plain.Plain.{Plain}
use Rattle.bc_mean.specs.Enabled.{all_enabled, is_enabled}
use Rattle.bc_mean.specs.Orders.{precedes}
use Rattle.bc_mean.specs.Serial.{Failed, has_failure, listed, replay, same_invocation}
use Rattle.bc_mean.proofs.Enabled.{all_ascending, all_exact}
use Rattle.bc_mean.proofs.Orders.{one_ascending, same_true}
use Rattle.bc_data.specs.declared.run.Failure.{Failure}
use Rattle.bc_failed.specs.Laws.{Once}
use Rattle.bc_failed.specs.Ordered.{failure_of, ordered, put}
use Rattle.bc_failed.proofs.Ordered.{order_ascends, order_exact}
use Rattle.bc_book_events.specs.Book.{BookState, is_at_rest, is_running}
use Rattle.bc_book_events.specs.Sound.{IsSoundBook, StillFails, StopTells}
use Rattle.bc_book_events.specs.SoundLaws.{book_at_start}
use Rattle.bc_book_events.proofs.SameRun.{machine_keeps_run}
use Rattle.bc_book_events.proofs.Sound.{ends_quiet}
use Rattle.bc_law_core.proofs.Sound.{core_is_sound}
use Rattle.bc_serial.specs.Laws.{RunsFromStart, StopsTell, WorkersTell}
use Rattle.bc_serial.specs.Run.{IsEnd, IsFaultOf, Tells, course_after}
use Rattle.bc_serial.specs.Told.{TellsTruth}

-- what holds of each failure holds of each in order
each_put : (Q : Failure → Type 0) (f : Failure) (gs : List Failure) → Q f → AllByRecursion Q gs → AllByRecursion Q (put f gs)
each_put Q f [] h a = (h, tt)
each_put Q f (g ∷ gs) h a = either (precedes g.v f.v) (each_put Q f gs h a.1)
  where
    either : (t : Bool) → AllByRecursion Q (put f gs) → AllByRecursion Q (cond t (g ∷ put f gs) (f ∷ g ∷ gs))
    either true later = (a.0, later)
    either false later = (h, a)

each_ordered : (Q : Failure → Type 0) (fs : List Failed) → AllByRecursion (λ f. Q (failure_of f)) fs → AllByRecursion Q (ordered fs)
each_ordered Q [] a = tt
each_ordered Q (f ∷ fs) a = each_put Q (failure_of f) (ordered fs) a.0 (each_ordered Q fs a.1)

each_weaker_failed : (P : TypedProgram) (S : Plain) (fs : List Failed) → AllByRecursion (StillFails P S) fs → AllByRecursion (λ f. IsFaultOf P S (failure_of f)) fs
each_weaker_failed P S [] a = tt
each_weaker_failed P S (f ∷ fs) a = (record { fault = a.0.fault; faults = a.0.faults; alike = a.0.alike }, each_weaker_failed P S fs a.1)

failed_enabled : (P : TypedProgram) (S : Plain) (fs : List Failed) (v : Invocation) → AllByRecursion (StillFails P S) fs → has_failure fs v ≡ true → is_enabled P S v ≡ true
failed_enabled P S [] v a h = absurd (false≢true h)
failed_enabled P S (f ∷ fs) v a h = elim (or_cases (same_invocation v f.v) (has_failure fs v) h) [
  | inl e ↦ subst (λ (w : Invocation). is_enabled P S w ≡ true) (sym (same_true v f.v e)) a.0.enabled
  | inr e ↦ failed_enabled P S fs v a.1 e
]

none_running : (running : List (Option Invocation)) (v : Invocation) → list_any is_some running ≡ false → is_running running v ≡ false
none_running [] v idle = refl
none_running (None ∷ rest) v idle = none_running rest v idle
none_running (Some w ∷ rest) v idle = absurd (true≢false idle)

none_pending : (vs : List Invocation) (v : Invocation) → length vs ≡ 0 → listed vs v ≡ false
none_pending [] v e = refl
none_pending (w ∷ vs) v e = absurd (omega (arith, e))

end_bools : (p e r f : Bool) → p ≡ (e && (not r && not f)) → p ≡ false → r ≡ false → (f ≡ true → e ≡ true) → f ≡ e
end_bools p e r f x h k l = grind (arith, x, h, k, l)

module _ (d : BookState) (sound : IsSoundBook d) (idle : list_any is_some d.running ≡ false) where
  once : Once d.failures
  once i j k a b =
      let f = (get_or d.failures i k).v in
      let g = (get_or d.failures j k).v in
      false_from_ne_true (same_invocation f g) (λ h. sound.exact.failed_once i j k a b (same_true f g h))

  module _ (ended : d.stop ≡ Some stop.End) where
    at_rest : is_at_rest d ≡ true
    at_rest = subst (StopTells d) ended sound.stop

    nothing_left : length d.pending ≡ 0
    nothing_left = eqb-true (length d.pending) 0 (and_parts (length d.pending == 0) (not (list_any is_some d.running)) at_rest).0

    all_failed : (v : Invocation) → has_failure d.failures v ≡ is_enabled d.program d.store v
    all_failed v =
        end_bools (listed d.pending v) (is_enabled d.program d.store v) (is_running d.running v) (has_failure d.failures v)
        (sound.exact.pending v) (none_pending d.pending v nothing_left) (none_running d.running v idle)
        (failed_enabled d.program d.store d.failures v (recursion_from_All (StillFails d.program d.store) d.failures sound.failing))

    is_end : IsEnd d.program d.store (ordered d.failures)
    is_end = record {
      quiet = ends_quiet d sound ended;
      all =
          one_ascending (map (λ (f : Failure). f.v) (ordered d.failures)) (all_enabled d.program d.store)
          (order_ascends.invocations d.failures once) (all_ascending d.program d.store)
          (λ v. order_exact.listed d.failures v ∙ all_failed v ∙ sym (all_exact d.program d.store v));
      faults =
          All-from_recursion (IsFaultOf d.program d.store) (ordered d.failures)
          (each_ordered (IsFaultOf d.program d.store) d.failures
          (each_weaker_failed d.program d.store d.failures (recursion_from_All (StillFails d.program d.store) d.failures sound.failing)));
    }

  tells : (s : Stop) → d.stop ≡ Some s → Tells d.program d.limit d.store d.history (ordered d.failures) s
  tells stop.End e = is_end e
  tells (stop.Spent v) e = subst (StopTells d) e sound.stop
  tells (stop.Crowded v) e = subst (StopTells d) e sound.stop
  tells stop.Memory e = tt

pub runs_from_start : RunsFromStart
runs_from_start P input limit workers d s finishes sound e =
    let failures = ordered d.failures in
    record {
      steps = finishes.steps;
      course = course_after (book_at_start P input limit workers) finishes.steps;
      reached = refl;
      committed = sym finishes.history;
      written = ap (λ (S : Plain). S.output) (sym finishes.store);
      failed = ap ordered (sym finishes.failures);
      ended = same_Some _ _ (sym e ∙ finishes.stop);
      replayed =
          subst (λ (S : Plain). replay P input d.history ≡ Some S) finishes.store
          (subst (λ (i : List ℕ). replay P i d.history ≡ Some d.store) finishes.same.input
          (subst (λ (Q : TypedProgram). replay Q d.input d.history ≡ Some d.store) finishes.same.program sound.replayed));
      tells =
          subst (λ (S : Plain). Tells P limit S d.history failures s) finishes.store
          (subst (λ (n : ℕ). Tells P n d.store d.history failures s) finishes.same.limit
          (subst (λ (Q : TypedProgram). Tells Q d.limit d.store d.history failures s) finishes.same.program (tells d sound finishes.idle s e)));
    }

pub stops_tell : StopsTell
stops_tell b s sound idle e = record {
  replayed = sound.replayed;
  within = sound.within;
  tells = tells b sound idle s e;
}

pub workers_tell : WorkersTell
workers_tell P input limit workers core s typed bytes short run idle e =
    let b = core.book in
    let same = machine_keeps_run.reached P input limit workers core run in
    let told = stops_tell b s (core_is_sound.reached P input limit workers core typed bytes short run).book idle e in
    subst (λ (Q : TypedProgram). TellsTruth Q input limit b.store b.history (ordered b.failures) s) same.program
    (subst (λ (i : List ℕ). TellsTruth b.program i limit b.store b.history (ordered b.failures) s) same.input
    (subst (λ (n : ℕ). TellsTruth b.program b.input n b.store b.history (ordered b.failures) s) same.limit told))

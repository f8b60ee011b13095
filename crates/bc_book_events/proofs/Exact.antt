-- Each event keeps the pending list exact.
use Rattle.std.proofs.Common.{◌≡◌, ◌≢◌, ℕ, ◌<◌, inl, inr, Bool, true, false, not, ◌&&◌, ◌||◌, List, [], ◌∷◌, ◌++◌, length, set, Some, None, refl, sym, ap, ap₂, ◌∙◌, subst, arith}
use Rattle.std.specs.Prelude.{AllPairs}
use Rattle.std.specs.List.{AllByRecursion, find}
use Rattle.std.specs.Set.{remove_key}
use Rattle.std.proofs.lemmas.Bool.{false≢true, and_parts, or_cases, or_right, cond_both, not-true, false_from_ne_true}
use Rattle.std.proofs.lemmas.List.Elements.{filter_passes, recursion_from_All}
use Rattle.std.proofs.lemmas.List.Kept.{AllPairs-filter}
use Rattle.bc_data.specs.Typed.{TypedProgram}
use Rattle.bc_data.specs.declared.run.Invocation.{Invocation}
use Rattle.bc_data.specs.declared.run.Stop.{Stop}
use Rattle.bc_mean.specs.declared.plain.Plain.{Plain}
use Rattle.bc_mean.specs.Changes.{changed_objects}
use Rattle.bc_mean.specs.Enabled.{is_enabled, all_enabled}
use Rattle.bc_mean.specs.Orders.{precedes}
use Rattle.bc_mean.specs.Serial.{Failed, has_failure, is_untouched, listed, same_invocation}
use Rattle.bc_mean.proofs.Enabled.{all_ascending, all_exact}
use Rattle.bc_mean.proofs.Lists.{Chain, across, chain_append, chain_from_pairs, each_weaker, pairs_from_chain}
use Rattle.bc_mean.proofs.Orders.{listed_append, listed_filter, listed_here, listed_later, never_before_itself}
use Rattle.bc_book_events.specs.Book.{BookState, busy, held_by, is_running}
use Rattle.bc_book_events.specs.Exact.{IsExact}
use Rattle.bc_book_events.specs.Laws.{KeepsExact}
use Rattle.bc_book_events.specs.Reshaped.{appended, failures_dropped, kept}
use Rattle.bc_book_events.specs.Steps.{committed, failures_left, freed, given, put_back, recorded, stopped}
use Rattle.bc_book_events.proofs.Members.{Differ, DifferentFailures, at_same, chain_removed, failed_push, failures_split, found_listed, has_failure_push, listed_removed, once_push}
use Rattle.bc_book_events.proofs.Running.{alone_freed, alone_given, held_here, listed_busy, not_running_freed, running_freed, running_given}

pub ready_parts : (p e r f : Bool) → p ≡ (e && (not r && not f)) → p ≡ true → (e ≡ true) × (r ≡ false) × (f ≡ false)
ready_parts p e r f x h =
    let q = and_parts e (not r && not f) (sym x ∙ h) in
    let s = and_parts (not r) (not f) q.1 in
    (q.0, not-true r s.0, not-true f s.1)

-- a pending one is enabled, no worker has it, and it has no failure
pub ready : (b : BookState) → IsExact b → (v : Invocation) → listed b.pending v ≡ true → (is_enabled b.program b.store v ≡ true) × (is_running b.running v ≡ false) × (has_failure b.failures v ≡ false)
ready b exact v h = ready_parts (listed b.pending v) (is_enabled b.program b.store v) (is_running b.running v) (has_failure b.failures v) (exact.pending v) h

-- a stop changes nothing else
pub stopped_exact : (b : BookState) (s : Stop) → IsExact b → IsExact (stopped s b)
stopped_exact b s exact = record { once = exact.once; pending = exact.pending; alone = exact.alone; unfailed = exact.unfailed; failed_once = exact.failed_once }

given_bools : (p e r f s r2 p2 : Bool) → p ≡ (e && (not r && not f)) → r2 ≡ (s || r) → p2 ≡ (p && not s) → p2 ≡ (e && (not r2 && not f))
given_bools p e r f s r2 p2 x y z = grind (arith, x, y, z)

pub given_exact : (b : BookState) (worker : ℕ) (test : Invocation → Bool) (v : Invocation) → IsExact b → held_by b.running worker ≡ None → worker < length b.running → find test b.pending ≡ Some v → IsExact (given worker test v b)
given_exact b worker test v exact free within first = record {
  once = pairs_from_chain Differ (remove_key test b.pending) (chain_removed test b.pending chain);
  pending = λ w.
      given_bools (listed b.pending w) (is_enabled b.program b.store w) (is_running b.running w) (has_failure b.failures w) (same_invocation w v) (is_running (set b.running worker (Some v)) w) (listed (remove_key test b.pending) w)
      (exact.pending w) (running_given b.running worker v free within w) (listed_removed test b.pending v chain first w);
  alone = alone_given b.running worker v exact.alone its.1;
  unfailed = λ w h. elim (or_cases (same_invocation w v) (is_running b.running w) (sym (running_given b.running worker v free within w) ∙ h)) [
    | inl e ↦ at_same (λ u. has_failure b.failures u ≡ false) v w e its.2
    | inr e ↦ exact.unfailed w e
  ];
  failed_once = exact.failed_once;
}
  where
    chain : Chain Differ b.pending
    chain = chain_from_pairs Differ b.pending exact.once

    its : (is_enabled b.program b.store v ≡ true) × (is_running b.running v ≡ false) × (has_failure b.failures v ≡ false)
    its = ready b exact v (found_listed test b.pending v first)

back_bools : (p e r f s r2 : Bool) → p ≡ (e && (not r && not f)) → r ≡ (s || r2) → (s ≡ true → e ≡ true) → (s ≡ true → r2 ≡ false) → (s ≡ true → f ≡ false) → (p || (s || false)) ≡ (e && (not r2 && not f))
back_bools p e r f s r2 x y a b c = grind (arith, x, y, a, b, c)

gone_bools : (p e r f s r2 : Bool) → p ≡ (e && (not r && not f)) → r ≡ (s || r2) → (s ≡ true → e ≡ false) → p ≡ (e && (not r2 && not f))
gone_bools p e r f s r2 x y a = grind (arith, x, y, a)

fault_bools : (p e r f s r2 : Bool) → p ≡ (e && (not r && not f)) → r ≡ (s || r2) → p ≡ (e && (not r2 && not (f || (s || false))))
fault_bools p e r f s r2 x y = grind (arith, x, y)

unfailed_bools : (f d k : Bool) → f ≡ (d || k) → f ≡ false → k ≡ false
unfailed_bools f d k x h = grind (arith, x, h)

exact_bools : (p e r f s r2 d k e2 : Bool) → p ≡ (e && (not r && not f)) → r ≡ (s || r2) → f ≡ (d || k) → ((p && e2) || (e2 && (not (p && e2) && (not r2 && not k)))) ≡ (e2 && (not r2 && not k))
exact_bools p e r f s r2 d k e2 x y z = grind (arith, x, y, z)

pub before_differ : (v w : Invocation) → precedes v w ≡ true → v ≢ w
before_differ v w h e = false≢true (sym (never_before_itself v) ∙ subst (λ (z : Invocation). precedes v z ≡ true) (sym e) h)

pub each_itself : (vs : List Invocation) → AllByRecursion (λ v. listed vs v ≡ true) vs
each_itself [] = tt
each_itself (v ∷ vs) = (listed_here v vs, each_weaker (λ w. listed vs w ≡ true) (λ w. listed (v ∷ vs) w ≡ true) (λ w h. listed_later v vs w h) vs (each_itself vs))

-- what is appended is exactly this
pub listed_appended : (P : TypedProgram) (T : Plain) (failures : List Failed) (running pending : List Invocation) (w : Invocation) →
    listed (appended P T failures running pending) w ≡ (is_enabled P T w && (not (listed pending w && is_enabled P T w) && (not (listed running w) && not (has_failure failures w))))
listed_appended P T failures running pending w =
    listed_filter (λ v. not (listed (kept P T pending) v) && (not (listed running v) && not (has_failure failures v))) (all_enabled P T) w
    ∙ ap₂ (λ (b : Bool) (c : Bool). b && (not c && (not (listed running w) && not (has_failure failures w)))) (all_exact P T w) (listed_filter (is_enabled P T) pending w)

-- where nothing is pending twice, nothing is afterwards
pub once_after : (P : TypedProgram) (T : Plain) (failures : List Failed) (running pending : List Invocation) → AllPairs Differ pending → AllPairs Differ (kept P T pending ++ appended P T failures running pending)
once_after P T failures running pending once =
    pairs_from_chain Differ (front ++ others)
    (chain_append Differ front others (chain_from_pairs Differ front (AllPairs-filter Differ (is_enabled P T) pending once))
    (chain_from_pairs Differ others (AllPairs-filter Differ open_ (all_enabled P T) (λ i j d a b. before_differ _ _ (all_ascending P T i j d a b))))
    (across Differ (λ w. listed front w ≡ true) (λ w. open_ w ≡ true) apart front others (each_itself front) (recursion_from_All (λ w. open_ w ≡ true) others (filter_passes open_ (all_enabled P T)))))
  where
    front : List Invocation
    front = kept P T pending

    others : List Invocation
    others = appended P T failures running pending

    open_ : Invocation → Bool
    open_ v = not (listed front v) && (not (listed running v) && not (has_failure failures v))

    apart : (x y : Invocation) → listed front x ≡ true → open_ y ≡ true → x ≢ y
    apart x y a b e = false≢true (sym (not-true (listed front y) (and_parts (not (listed front y)) (not (listed running y) && not (has_failure failures y)) b).0) ∙ subst (λ (z : Invocation). listed front z ≡ true) e a)

module _ (b : BookState) (worker : ℕ) (v : Invocation) (exact : IsExact b) (held : held_by b.running worker ≡ Some v) where
  its_failure : has_failure b.failures v ≡ false
  its_failure = exact.unfailed v (held_here b.running worker v held)

  nowhere : is_running (set b.running worker None) v ≡ false
  nowhere = not_running_freed b.running worker v exact.alone held

  not_pending : listed b.pending v ≡ false
  not_pending = false_from_ne_true (listed b.pending v) (λ h. false≢true (sym (ready b exact v h).1 ∙ held_here b.running worker v held))

  split : (w : Invocation) → is_running b.running w ≡ (same_invocation w v || is_running (set b.running worker None) w)
  split w = running_freed b.running worker v held w

  unfailed : (w : Invocation) → is_running (set b.running worker None) w ≡ true → has_failure b.failures w ≡ false
  unfailed w h = exact.unfailed w (split w ∙ or_right (same_invocation w v) (is_running (set b.running worker None) w) h)

  pub freed_exact : is_enabled b.program b.store v ≡ false → IsExact (freed worker b)
  freed_exact stale = record {
    once = exact.once;
    pending = λ w.
        gone_bools (listed b.pending w) (is_enabled b.program b.store w) (is_running b.running w) (has_failure b.failures w) (same_invocation w v) (is_running (set b.running worker None) w)
        (exact.pending w) (split w) (λ e. at_same (λ u. is_enabled b.program b.store u ≡ false) v w e stale);
    alone = alone_freed b.running worker exact.alone;
    unfailed = unfailed;
    failed_once = exact.failed_once;
  }

  pub back_exact : IsExact (put_back worker v b)
  back_exact = record {
    once = cond_both (is_enabled b.program b.store v) (b.pending ++ v ∷ []) b.pending (AllPairs Differ) (λ _. once_push b.pending v exact.once not_pending) (λ _. exact.once);
    pending = λ w.
        cond_both (is_enabled b.program b.store v) (b.pending ++ v ∷ []) b.pending (λ l. listed l w ≡ (is_enabled b.program b.store w && (not (is_running (set b.running worker None) w) && not (has_failure b.failures w))))
        (λ on.
        listed_append b.pending (v ∷ []) w
        ∙ back_bools (listed b.pending w) (is_enabled b.program b.store w) (is_running b.running w) (has_failure b.failures w) (same_invocation w v) (is_running (set b.running worker None) w)
        (exact.pending w) (split w)
        (λ e. at_same (λ u. is_enabled b.program b.store u ≡ true) v w e on)
        (λ e. at_same (λ u. is_running (set b.running worker None) u ≡ false) v w e nowhere)
        (λ e. at_same (λ u. has_failure b.failures u ≡ false) v w e its_failure))
        (λ stale.
        gone_bools (listed b.pending w) (is_enabled b.program b.store w) (is_running b.running w) (has_failure b.failures w) (same_invocation w v) (is_running (set b.running worker None) w)
        (exact.pending w) (split w) (λ e. at_same (λ u. is_enabled b.program b.store u ≡ false) v w e stale));
    alone = alone_freed b.running worker exact.alone;
    unfailed = unfailed;
    failed_once = exact.failed_once;
  }

  pub recorded_exact : (f : Failed) → f.v ≡ v → IsExact (recorded worker f b)
  recorded_exact f of = record {
    once = exact.once;
    pending = λ w.
        fault_bools (listed b.pending w) (is_enabled b.program b.store w) (is_running b.running w) (has_failure b.failures w) (same_invocation w v) (is_running (set b.running worker None) w) (exact.pending w) (split w)
        ∙ ap (λ (c : Bool). is_enabled b.program b.store w && (not (is_running (set b.running worker None) w) && not c)) (sym (its_push w));
    alone = alone_freed b.running worker exact.alone;
    unfailed = λ w h. its_push w ∙ none_bools (has_failure b.failures w) (same_invocation w v) (unfailed w h) (false_from_ne_true (same_invocation w v) (λ e. false≢true (sym (at_same (λ u. is_running (set b.running worker None) u ≡ false) v w e nowhere) ∙ h)));
    failed_once = failed_push b.failures f exact.failed_once (subst (λ (z : Invocation). has_failure b.failures z ≡ false) (sym of) its_failure);
  }
    where
      its_push : (w : Invocation) → has_failure (b.failures ++ f ∷ []) w ≡ (has_failure b.failures w || (same_invocation w v || false))
      its_push w = has_failure_push b.failures f w ∙ ap (λ (z : Invocation). has_failure b.failures w || (same_invocation w z || false)) of

      none_bools : (a c : Bool) → a ≡ false → c ≡ false → (a || (c || false)) ≡ false
      none_bools a c h k = grind (arith, h, k)

  pub committed_exact : (T : Plain) → IsExact (committed worker T v b)
  committed_exact T = record {
    once = once_after b.program T left (busy (set b.running worker None)) b.pending exact.once;
    pending = λ w.
        listed_append (kept b.program T b.pending) (appended b.program T left (busy (set b.running worker None)) b.pending) w
        ∙ (ap₂ (λ (c : Bool) (d : Bool). c || d) (listed_filter (is_enabled b.program T) b.pending w) (listed_appended b.program T left (busy (set b.running worker None)) b.pending w)
        ∙ (ap (λ (c : Bool). (listed b.pending w && is_enabled b.program T w) || (is_enabled b.program T w && (not (listed b.pending w && is_enabled b.program T w) && (not c && not (has_failure left w))))) (listed_busy (set b.running worker None) w)
        ∙ exact_bools (listed b.pending w) (is_enabled b.program b.store w) (is_running b.running w) (has_failure b.failures w) (same_invocation w v) (is_running (set b.running worker None) w) (has_failure (failures_dropped changed b.failures) w) (has_failure left w) (is_enabled b.program T w)
        (exact.pending w) (split w) (failures_split changed b.failures w)));
    alone = alone_freed b.running worker exact.alone;
    unfailed = λ w h. unfailed_bools (has_failure b.failures w) (has_failure (failures_dropped changed b.failures) w) (has_failure left w) (failures_split changed b.failures w) (unfailed w h);
    failed_once = AllPairs-filter DifferentFailures (is_untouched changed) b.failures exact.failed_once;
  }
    where
      changed : List ℕ
      changed = changed_objects b.store T

      left : List Failed
      left = failures_left changed b.failures

pub keeps_exact : KeepsExact
keeps_exact = record {
  given = given_exact;
  dropped = λ b worker v exact held stale. freed_exact b worker v exact held stale;
  put_back = λ b worker v exact held. back_exact b worker v exact held;
  recorded = λ b worker f exact held. recorded_exact b worker f.v exact held f refl;
  committed = λ b worker v T exact held. committed_exact b worker v exact held T;
  stopped = stopped_exact;
}

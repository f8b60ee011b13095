-- A history keeps the store fitting.
use Rattle.std.proofs.Common.{◌≡◌, Bool, true, false, cond, List, [], ◌∷◌, ◌++◌, Some, None, refl, sym, subst, ◌∙◌}
use Rattle.std.proofs.lemmas.Option.{none-some, option_and_then_some, same_Some}
use Rattle.bc_data.specs.Typed.{TypedProgram}
use Rattle.bc_data.specs.WellTyped.{IsWellTyped}
use Rattle.bc_data.specs.declared.run.Invocation.{Invocation}
use Rattle.bc_data.specs.declared.run.Ran.{Ran}
use Rattle.bc_data.specs.declared.run.Ran.TheVariants as ran
use Rattle.bc_mean.specs.declared.plain.Plain.{Plain}
use Rattle.bc_mean.specs.Changes.{apply_changes}
use Rattle.bc_mean.specs.Enabled.{IsEnabled, is_enabled}
use Rattle.bc_mean.specs.Outcome.{outcome}
use Rattle.bc_mean.specs.Serial.{after_commit, after_ran, is_crowded, replay_from}
use Rattle.bc_mean.specs.Sound.{Commits}
use Rattle.bc_mean.specs.Store.{Fits, start_store}
use Rattle.bc_mean.proofs.Course.{replay_parts}
use Rattle.bc_law_soundness.proofs.Keeping.{keeps_fit}
use Rattle.bc_law_soundness.proofs.Stuck.{never_stuck}
use Rattle.bc_law_histories.specs.Laws.{ReplayFits, EntriesRun}
use Rattle.bc_law_histories.proofs.Starting.{start_fits}

-- the store behind an invocation is that of its changes
ran_leads : (P : TypedProgram) (S T : Plain) (v : Invocation) (r : Ran) → (is_enabled P S v ≡ true) → (outcome P S v).ran ≡ r → after_ran P S r ≡ Some T → (c : _) × Commits P S v c × (apply_changes S c ≡ T)
ran_leads P S T v (ran.Commit c) enabled commit e = either (is_crowded P (apply_changes S c)) e
  where
    either : (crowded : Bool) → cond crowded None (Some (apply_changes S c)) ≡ Some T → (c : _) × Commits P S v c × (apply_changes S c ≡ T)
    either true e = absurd (none-some T e)
    either false e = (c, record { enabled = enabled; commit = commit }, same_Some (apply_changes S c) T e)
ran_leads P S T v (ran.Faulted f) enabled commit e = absurd (none-some T e)

commit_leads : (P : TypedProgram) (S T : Plain) (v : Invocation) → after_commit P S v ≡ Some T → (c : _) × Commits P S v c × (apply_changes S c ≡ T)
commit_leads P S T v e = either (is_enabled P S v) refl e
  where
    either : (enabled : Bool) → is_enabled P S v ≡ enabled → cond enabled (after_ran P S (outcome P S v).ran) None ≡ Some T → (c : _) × Commits P S v c × (apply_changes S c ≡ T)
    either true enabled e = ran_leads P S T v (outcome P S v).ran enabled refl e
    either false enabled e = absurd (none-some T e)

commit_fits : (P : TypedProgram) (S T : Plain) (v : Invocation) → IsWellTyped P → Fits P S → after_commit P S v ≡ Some T → Fits P T
commit_fits P S T v well fits e =
    let c = commit_leads P S T v e in
    subst (Fits P) c.2 (keeps_fit P S v c.0 well fits c.1.enabled c.1.commit)

pub history_fits : (P : TypedProgram) (S T : Plain) (history : List Invocation) → IsWellTyped P → Fits P S → replay_from P S history ≡ Some T → Fits P T
history_fits P S T [] well fits e = subst (Fits P) (same_Some S T e) fits
history_fits P S T (v ∷ vs) well fits e =
    option_and_then_some (λ (U : Plain). replay_from P U vs) (after_commit P S v) T e
    (λ U f h. history_fits P U T vs well (commit_fits P S U v well fits f) h)

pub replay_fits : ReplayFits
replay_fits = record {
  from_store = history_fits;
  from_start = λ P input history S well bytes short e. history_fits P (start_store input) S history well (start_fits P input well bytes short) e;
}

-- the store in the middle of a history
pub middle : (P : TypedProgram) (S T : Plain) (front back : List Invocation) → replay_from P S (front ++ back) ≡ Some T → (R : Plain) × (replay_from P S front ≡ Some R) × (replay_from P R back ≡ Some T)
middle P S T front back e =
    option_and_then_some (λ (R : Plain). replay_from P R back) (replay_from P S front) T (sym (replay_parts P S front back) ∙ e) (λ R f h. (R, f, h))

enabled_behind : (P : TypedProgram) (R T : Plain) (v : Invocation) (back : List Invocation) → replay_from P R (v ∷ back) ≡ Some T → IsEnabled P R v
enabled_behind P R T v back e =
    option_and_then_some (λ (U : Plain). replay_from P U back) (after_commit P R v) T e (λ U f h. (commit_leads P R U v f).1.enabled)

pub entries_run : EntriesRun
entries_run P input front v back S well bytes short e =
    let R = middle P (start_store input) S front (v ∷ back) e in
    let fits = history_fits P (start_store input) R.0 front well (start_fits P input well bytes short) R.1 in
    let enabled = enabled_behind P R.0 S v back R.2 in
    record { store = R.0; replayed = R.1; fits = fits; enabled = enabled; run = never_stuck P R.0 v well fits enabled }

-- The laws of single runs, and that the machine is sound.
use Rattle.std.proofs.Common.{◌≡◌, Bool, true, false, cond, Some, None, get_or, refl, subst}
use Rattle.std.specs.Prelude.{filter}
use Rattle.std.proofs.lemmas.List.Elements.{All-filter, filter_passes}
use Rattle.std.proofs.lemmas.Option.{none-some, same_Some}
use Rattle.bc_data.specs.Typed.{TypedProgram}
use Rattle.bc_data.specs.declared.run.Changes.{Changes}
use Rattle.bc_data.specs.declared.run.Invocation.{Invocation}
use Rattle.bc_data.specs.declared.run.Ran.{Ran}
use Rattle.bc_data.specs.declared.run.Ran.TheVariants as ran
use Rattle.bc_mean.specs.declared.plain.Plain.{Plain}
use Rattle.bc_mean.specs.Changes.{apply_changes, changed_objects}
use Rattle.bc_mean.specs.Enabled.{is_enabled}
use Rattle.bc_mean.specs.Outcome.{body_outcome, outcome}
use Rattle.bc_mean.specs.Serial.{after_commit, after_ran, is_crowded, is_untouched}
use Rattle.bc_law_locality.proofs.Runs.{changes_are_touched, outcome_commits}
use Rattle.bc_law_histories.proofs.Replaying.{replay_fits}
use Rattle.bc_book_events.specs.Book.{BookState}
use Rattle.bc_book_events.specs.Sound.{IsSoundBook, StillFails}
use Rattle.bc_book_events.specs.SoundCore.{RunLaws}
use Rattle.bc_book_events.specs.SoundLaws.{LeavesFailures}
use Rattle.bc_book_events.proofs.CoreSteps.{keeps_sound_core}
use Rattle.bc_law_core.specs.Laws.{CommitsLeaveFailures, CoreIsSound}
use Rattle.bc_law_core.proofs.Standing.{stands}

-- the store behind a commit is that of its changes
abbrev LeadsBy : TypedProgram → Plain → Plain → Invocation → Type 0
LeadsBy P S T v = (c : Changes) × ((outcome P S v).ran ≡ ran.Commit c) × (apply_changes S c ≡ T)

ran_leads : (P : TypedProgram) (S T : Plain) (v : Invocation) (r : Ran) → (outcome P S v).ran ≡ r → after_ran P S r ≡ Some T → LeadsBy P S T v
ran_leads P S T v (ran.Commit c) commit e = either (is_crowded P (apply_changes S c)) e
  where
    either : (crowded : Bool) → cond crowded None (Some (apply_changes S c)) ≡ Some T → LeadsBy P S T v
    either true e = absurd (none-some T e)
    either false e = (c, commit, same_Some (apply_changes S c) T e)
ran_leads P S T v (ran.Faulted f) commit e = absurd (none-some T e)

commit_leads : (P : TypedProgram) (S T : Plain) (v : Invocation) → after_commit P S v ≡ Some T → LeadsBy P S T v
commit_leads P S T v e = either (is_enabled P S v) e
  where
    either : (enabled : Bool) → cond enabled (after_ran P S (outcome P S v).ran) None ≡ Some T → LeadsBy P S T v
    either true e = ran_leads P S T v (outcome P S v).ran refl e
    either false e = absurd (none-some T e)

pub run_laws : RunLaws
run_laws = record {
  fits = replay_fits.from_start;
  touched = changes_are_touched.body;
  stand = λ P S T v f well fits still leads untouched.
      let c = commit_leads P S T v leads in
      subst (λ (U : Plain). is_untouched (changed_objects S U) f ≡ true → StillFails P U f) c.2
      (λ same. stands P S v c.0 f well fits (outcome_commits P S v c.0 c.1) still same) untouched;
}

pub core_is_sound : CoreIsSound
core_is_sound = record {
  event = λ core worker e sound lawful. keeps_sound_core.event core worker e run_laws sound lawful;
  reached = λ P input limit workers core well bytes short run. keeps_sound_core.reached P input limit workers core run_laws well bytes short run;
}

body_leaves : (b : BookState) (v : Invocation) (c : Changes) → IsSoundBook b → (body_outcome b.program b.store v).ran ≡ ran.Commit c → LeavesFailures b (apply_changes b.store c)
body_leaves b v c sound exits =
    let T = apply_changes b.store c in
    let fits = replay_fits.from_start b.program b.input b.history b.store sound.typed sound.bytes sound.short sound.replayed in
    let test = is_untouched (changed_objects b.store T) in
    λ k d l.
    stands b.program b.store v c (get_or (filter test b.failures) k d) sound.typed fits exits
    (All-filter test (StillFails b.program b.store) b.failures sound.failing k d l) (filter_passes test b.failures k d l)

pub commits_leave_failures : CommitsLeaveFailures
commits_leave_failures = record {
  body = body_leaves;
  commit = λ b v T sound leads.
      let c = commit_leads b.program b.store T v leads in
      subst (LeavesFailures b) c.2 (body_leaves b v c.0 sound (outcome_commits b.program b.store v c.0 c.1));
}

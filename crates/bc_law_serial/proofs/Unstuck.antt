-- No invocation that the serial run of a well-typed program runs is stuck.
use Rattle.std.proofs.Common.{◌≡◌, ℕ, zero, suc, true, not, List, [], ◌∷◌, sym, ◌∙◌}
use Rattle.std.specs.Prelude.{slice_get}
use Rattle.std.specs.List.{AllByRecursion}
use Rattle.std.proofs.lemmas.Bool.{and_parts}
use Rattle.std.proofs.lemmas.List.Elements.{All-from_recursion}
use Rattle.bc_data.specs.Typed.{TypedProgram}
use Rattle.bc_data.specs.declared.run.Invocation.{Invocation}
use Rattle.bc_mean.specs.Enabled.{IsEnabled, is_enabled}
use Rattle.bc_mean.specs.Outcome.{body_run}
use Rattle.bc_mean.specs.Serial.{Course, course_at_start, has_failure, listed, serial_step, serial_steps}
use Rattle.bc_mean.specs.Sound.{IsSound}
use Rattle.bc_mean.proofs.Orders.{listed_here, listed_later}
use Rattle.bc_mean.proofs.Sound.{keeps_sound}
use Rattle.bc_law_soundness.specs.Laws.{IsNotStuck}
use Rattle.bc_law_soundness.proofs.Stuck.{never_stuck}
use Rattle.bc_law_histories.proofs.Replaying.{replay_fits}
use Rattle.bc_law_serial.specs.Laws.{StepsUnstuck}

steps_sound :
    (P : TypedProgram) (input : List ℕ) (limit steps : ℕ) (r : Course)
    → IsSound P input limit r
    → IsSound P input limit (serial_steps P limit steps r)
steps_sound P input limit zero r sound = sound
steps_sound P input limit (suc n) r sound =
    steps_sound P input limit n (serial_step P limit r) (keeps_sound.step P input limit r sound)

-- what holds of each that is listed holds of each
each_of :
    (Q : Invocation → Type 0) (vs : List Invocation)
    → ((v : Invocation) → listed vs v ≡ true → Q v)
    → AllByRecursion Q vs
each_of Q [] h = tt
each_of Q (v ∷ vs) h = (h v (listed_here v vs), each_of Q vs (λ w l. h w (listed_later v vs w l)))

module _ (P : TypedProgram) (input : List ℕ) (limit : ℕ) (r : Course) (sound : IsSound P input limit r) where
  pending_enabled : (v : Invocation) → listed r.pending v ≡ true → IsEnabled P r.store v
  pending_enabled v h =
      (and_parts (is_enabled P r.store v) (not (has_failure r.failures v)) (sym (sound.pending v) ∙ h)).0

pub steps_unstuck : StepsUnstuck
steps_unstuck P input limit steps typed bytes short =
    let start = course_at_start P input in
    let r = serial_steps P limit steps start in
    let sound = steps_sound P input limit steps start (keeps_sound.start P input limit) in
    let fits = replay_fits.from_start P input r.history r.store typed bytes short sound.replayed in
    let Unstuck : Invocation → Type 0 = λ v. IsNotStuck (body_run P r.store (slice_get P.tasks v.task) v) in
    record {
      fits = fits;
      pending =
          All-from_recursion Unstuck r.pending
          (each_of Unstuck r.pending
          (λ v l. never_stuck P r.store v typed fits (pending_enabled P input limit r sound v l)));
    }

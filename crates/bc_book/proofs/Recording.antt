-- A failure that leaves a book sound may be added.
use Rattle.std.proofs.Common.{◌≡◌, ℕ, ◌<◌, ◌≤◌, true, false, List, [], ◌∷◌, ◌++◌, length, length-append, get_or, Some, sym, ap, subst, ◌∙◌, arith}
use Rattle.std.proofs.lemmas.Bool.Decides.{nat_tests}
use Rattle.std.specs.Prelude.{All, nat_lt}
use Rattle.std.specs.List.{AllByRecursion}
use Rattle.std.proofs.lemmas.List.{length-map}
use Rattle.std.proofs.lemmas.List.Elements.{recursion_from_All}
use Rattle.bc_data.specs.Typed.{TypedProgram}
use Rattle.bc_data.specs.WellTyped.{IsWellTyped}
use Rattle.bc_data.specs.declared.run.Invocation.{Invocation}
use Rattle.bc_mean.specs.declared.plain.Plain.{Plain}
use Rattle.bc_mean.specs.Enabled.{IsEnabled, all_enabled, are_different}
use Rattle.bc_mean.specs.Serial.{Failed, has_failure}
use Rattle.bc_law_locality.proofs.Runs.{touched_from_the_parameters}
use Rattle.bc_law_core.proofs.Sound.{run_laws}
use Rattle.bc_book_events.specs.Book.{BookState, held_by}
use Rattle.bc_book_events.specs.Sound.{IsSoundBook, StillFails}
use Rattle.bc_book_events.specs.Steps.{recorded}
use Rattle.bc_book_events.proofs.Counted.{enabled_counted}
use Rattle.bc_book_events.proofs.Reshaped.{typed_task}
use Rattle.bc_book_events.proofs.Named.{enabled_names}
use Rattle.bc_book_events.proofs.Running.{held_here}

nat_lt_false : (m n : ℕ) → nat_lt m n ≡ false → n ≤ m
nat_lt_false m n e = grind (arith, nat_tests, e)

-- what the failures ask of one more
pub record Addable (fs : List Failed) (f : Failed) : Type 0 where
  pub new : has_failure fs f.v ≡ false
  pub few : length fs < 262144
  pub some : 1 ≤ length f.touched
  pub different : are_different f.touched ≡ true
  pub below : All (λ id. id < 65536) f.touched

-- what an enabled invocation touches
some_objects : (P : TypedProgram) (S : Plain) (v : Invocation) → IsWellTyped P → IsEnabled P S v → 1 ≤ length v.objects
some_objects P S v typed e =
    let named = enabled_names.enabled P S v typed e in
    let some = (typed_task P typed v.task named.task named.here).some_params in
    omega (arith, some, named.params)

last_stands : (P : TypedProgram) (S : Plain) (fs : List Failed) (f : Failed) → AllByRecursion (StillFails P S) (fs ++ f ∷ []) → StillFails P S f
last_stands P S [] f a = a.0
last_stands P S (g ∷ gs) f a = last_stands P S gs f a.1

pub addable :
    (b : BookState) (worker : ℕ) (f : Failed)
    → held_by b.running worker ≡ Some f.v
    → IsSoundBook b
    → IsSoundBook (recorded worker f b)
    → All (λ id. id < length b.store.bodies) f.touched
    → Addable b.failures f
addable b worker f held before behind there =
    let P = b.program in
    let S = b.store in
    let all = b.failures ++ f ∷ [] in
    let stands = last_stands P S b.failures f (recursion_from_All (StillFails P S) all behind.failing) in
    let counted = enabled_counted (recorded worker f b) behind.exact (λ k d l. (behind.failing k d l).enabled) in
    let touched = sym (touched_from_the_parameters.with_room P S f.v) ∙ stands.touched in
    let begins = touched_from_the_parameters.begins P S f.v in
    let some = some_objects P S f.v before.typed stands.enabled in
    record {
      new = before.exact.unfailed f.v (held_here b.running worker f.v held);
      few = omega (arith, counted, length-append b.failures (f ∷ []), nat_lt_false 262144 (length (all_enabled P S)) behind.roomy);
      some = omega (arith, some, length-append f.v.objects begins.0, ap length touched, ap length begins.1);
      different = subst (λ (l : List ℕ). are_different l ≡ true) touched (touched_from_the_parameters.once P S f.v (enabled_names.enabled P S f.v before.typed stands.enabled).different);
      below = λ k d l. let one : get_or f.touched k d < length S.bodies = there k d l in omega (arith, one, (run_laws.fits P b.input b.history S before.typed before.bytes before.short before.replayed).objects);
    }

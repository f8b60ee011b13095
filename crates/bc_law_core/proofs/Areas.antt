-- How an area at its end ends in the store of a book.
use Rattle.std.proofs.Common.{◌≡◌, ◌<◌, ℕ, true, List, length, get_or, Some, None, sym, ap, ◌∙◌, subst, arith}
use Rattle.std.specs.Prelude.{All, slice_get}
use Rattle.std.proofs.lemmas.Option.{same_Some, slice_get-get_or}
use Rattle.bc_data.specs.Typed.{TypedProgram, TypedTask}
use Rattle.bc_data.specs.WellTyped.{IsWellTyped}
use Rattle.bc_data.specs.declared.run.Invocation.{Invocation}
use Rattle.bc_data.specs.declared.run.Outcome.{Outcome}
use Rattle.bc_data.specs.declared.run.Ran.{Ran}
use Rattle.bc_data.specs.declared.run.Ran.TheVariants as ran
use Rattle.bc_mean.specs.declared.plain.Plain.{Plain}
use Rattle.bc_mean.specs.Changes.{apply_changes}
use Rattle.bc_mean.specs.Enabled.{IsEnabled, are_different}
use Rattle.bc_mean.specs.Outcome.{body_outcome}
use Rattle.bc_mean.proofs.Enabled.{named_alone}
use Rattle.bc_law_locality.specs.Growth.{has}
use Rattle.bc_law_locality.proofs.Lists.{has_more, one_of}
use Rattle.bc_law_locality.proofs.Runs.{touched_from_the_parameters}
use Rattle.bc_code.specs.Given.{given_look, ids_of}
use Rattle.bc_step.specs.Area.{AgreesWith, AreaParts, given_of}
use Rattle.bc_machine.specs.Running.{InEach}
use Rattle.bc_book_events.specs.Book.{BookState}
use Rattle.bc_book_events.specs.Named.{IsNamed}
use Rattle.bc_book_events.specs.SoundLaws.{EndsSo}
use Rattle.bc_book_events.proofs.Reshaped.{enabled_of}
use Rattle.bc_book_events.proofs.Named.{enabled_names}
use Rattle.bc_book_events.proofs.Running.{held_here}
use Rattle.bc_book_events.proofs.Sound.{keeps_sound_book}
use Rattle.bc_law_core.specs.Areas.{AreasKeepSound, IsAreaOf, LocalEnds, WasEnabled, changes_of, moved_in}
use Rattle.bc_law_core.proofs.Given.{both_have, unmoved_agrees}
use Rattle.bc_law_core.proofs.Sound.{commits_leave_failures}
use Rattle.bc_law_core.proofs.Standing.{each_in}

-- The instances that an invocation names have their variables' types in both stores.
same_types : (P : TypedProgram) (S T : Plain) (v : Invocation) → IsNamed P S v → IsNamed P T v → All (λ n. slice_get S.tags n ≡ slice_get T.tags n) v.tags
same_types P S T v here there k d l =
    let n = get_or v.tags k d in
    let at : slice_get v.tags k ≡ Some n = slice_get-get_or v.tags k d l in
    let variables = here.task.variables in
    let type = get_or variables k 0 in
    let within : k < length variables = omega (arith, l, here.variables) in
    let declared : slice_get variables k ≡ Some type = slice_get-get_or variables k 0 within in
    let same : here.task ≡ there.task = same_Some here.task there.task (sym here.here ∙ there.here) in
    here.types k n type at declared
    ∙ sym (there.types k n type at (subst (λ (t : TypedTask). slice_get t.variables k ≡ Some type) same declared))

-- an area that ends so in every store that has the bodies given
abbrev EndsWith : TypedProgram → AreaParts → (Plain → Ran) → Type 0
EndsWith P a r = InEach a (λ S. body_outcome P S a.invocation ≡ record { ran = r S; touched = ids_of (given_of a.held) })

module _ (P : TypedProgram) (a : AreaParts) (r : Plain → Ran) (was : WasEnabled P a) (run : EndsWith P a r) where
  abbrev ids : List ℕ
  ids = ids_of (given_of a.held)

  touched : (body_outcome P was.store a.invocation).touched ≡ ids
  touched = ap (λ (o : Outcome). o.touched) (run was.store was.agrees)

  different : are_different ids ≡ true
  different =
      subst (λ (ts : List ℕ). are_different ts ≡ true) touched
      (touched_from_the_parameters.once P was.store a.invocation (enabled_of P was.store a.invocation was.enabled).different)

  agrees_there : (S : Plain) → moved_in S a ≡ None → AgreesWith S (given_of a.held)
  agrees_there S e = unmoved_agrees S (given_of a.held) different e

  same_objects : (S : Plain) → AgreesWith S (given_of a.held) → All (λ id. slice_get was.store.bodies id ≡ slice_get S.bodies id) a.invocation.objects
  same_objects S agrees k d l =
      let objects = a.invocation.objects in
      let id = get_or objects k d in
      let b = touched_from_the_parameters.begins P was.store a.invocation in
      one_of (λ id. slice_get was.store.bodies id ≡ slice_get S.bodies id) ids id (both_have was.store S (given_of a.held) was.agrees agrees)
      (subst (λ (ts : List ℕ). has ts id ≡ true) (sym b.1 ∙ touched) (has_more objects b.0 id (each_in objects k d l)))

  enabled_there : (S : Plain) → IsWellTyped P → IsNamed P S a.invocation → AgreesWith S (given_of a.held) → IsEnabled P S a.invocation
  enabled_there S well named agrees =
      sym (named_alone P was.store S a.invocation (same_objects S agrees) (same_types P was.store S a.invocation (enabled_names.enabled P was.store a.invocation well was.enabled) named))
      ∙ was.enabled

ends_so :
    (b : BookState) (worker : ℕ) (a : AreaParts) (r : Plain → Ran)
    → IsAreaOf b worker a
    → EndsWith b.program a r
    → moved_in b.store a ≡ None
    → EndsSo b a.invocation (r b.store) (ids_of (given_of a.held))
ends_so b worker a r is run e =
    let agrees = agrees_there b.program a r is.was run b.store e in
    let named = is.sound.named a.invocation (held_here b.running worker a.invocation is.held) in
    record {
      enabled = enabled_there b.program a r is.was run b.store is.sound.typed named agrees;
      ends = run b.store agrees;
    }

pub local_ends : LocalEnds
local_ends = record {
  was = λ P S code m a running kept. record {
    store = S;
    enabled = subst (IsEnabled P S) (sym kept.invocation) running.run.enabled;
    agrees = subst (AgreesWith S) (sym kept.given) running.agrees;
  };
  exit_agrees = λ P S a was exit e. agrees_there P a (λ T. ran.Commit (changes_of T a)) was exit.run S e;
  exit = λ b worker a is exit e. ends_so b worker a (λ T. ran.Commit (changes_of T a)) is exit.run e;
  fault = λ b worker a f is fault e. ends_so b worker a (λ T. ran.Faulted f) is fault.run e;
}

pub areas_keep_sound : AreasKeepSound
areas_keep_sound = record {
  commit = λ b worker a is exit.
      keeps_sound_book.commit b (given_look (given_of a.held)) (changes_of b.store a) (ids_of (given_of a.held)) worker a.invocation is.sound is.held
      (local_ends.exit b worker a is exit)
      (commits_leave_failures.commit b a.invocation (apply_changes b.store (changes_of b.store a)) is.sound);
  fail = λ b worker a f is fault.
      keeps_sound_book.fail b (given_look (given_of a.held)) f (ids_of (given_of a.held)) worker a.invocation is.sound is.held (local_ends.fault b worker a f is fault);
}

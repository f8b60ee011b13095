-- An enabled invocation names what is there, and what is there stays.
use Rattle.std.proofs.Common.{◌≡◌, ℕ, suc, ◌<◌, true, ◌&&◌, List, [], ◌∷◌, map, length, length-append, get_or, refl, sym, ap, ◌∙◌, arith}
use Rattle.std.specs.Prelude.{slice_get}
use Rattle.std.specs.List.{AllByRecursion, list_all}
use Rattle.std.proofs.lemmas.Bool.{and_parts, false≢true}
use Rattle.std.proofs.lemmas.List.Elements.{All-from_recursion}
use Rattle.std.proofs.lemmas.Option.{slice_get_within}
use Rattle.bc_data.specs.Guard.{guard_truth}
use Rattle.bc_data.specs.Typed.{TypedParam, TypedProgram, TypedTask}
use Rattle.bc_data.specs.WellTyped.{IsWellTyped}
use Rattle.bc_data.specs.declared.run.Changes.{Changes}
use Rattle.bc_data.specs.declared.run.Invocation.{Invocation}
use Rattle.bc_mean.specs.declared.plain.Plain.{Plain}
use Rattle.bc_mean.specs.Changes.{apply_changes, body_in, put_bodies}
use Rattle.bc_mean.specs.Enabled.{IsEnabled, carries, is_class, take_all, takes}
use Rattle.bc_book_events.specs.Named.{IsNamed}
use Rattle.bc_book_events.specs.SoundLaws.{EnabledNames}
use Rattle.bc_book_events.proofs.Appended.{get_front, put_length}
use Rattle.bc_book_events.proofs.Reshaped.{carrier, enabled_of, some_and_parts}

pub taken_there : (S : Plain) (t : TypedTask) (instances : List ℕ) (ps : List TypedParam) (ids : List ℕ) → take_all S t instances ps ids ≡ true → (length ids ≡ length ps) × AllByRecursion (λ id. id < length S.bodies) ids
taken_there S t instances [] [] h = (refl, tt)
taken_there S t instances [] (id ∷ ids) h = absurd (false≢true h)
taken_there S t instances (p ∷ ps) [] h = absurd (false≢true h)
taken_there S t instances (p ∷ ps) (id ∷ ids) h =
    let q = and_parts (takes S t instances p id) (take_all S t instances ps ids) h in
    let r = taken_there S t instances ps ids q.1 in
    let b = some_and_parts (slice_get S.bodies id) (λ b. is_class p.class b.kind && guard_truth p.guard b.flags && list_all (carries S t instances b) p.binds) q.0 in
    (ap suc r.0, (slice_get_within S.bodies id b.0 b.1, r.1))

any_each : (ids : List ℕ) → AllByRecursion (λ id. Unit {0}) ids
any_each [] = tt
any_each (id ∷ ids) = (tt, any_each ids)

enabled_named : (P : TypedProgram) (S : Plain) (v : Invocation) → IsWellTyped P → IsEnabled P S v → IsNamed P S v
enabled_named P S v typed h =
    let e = enabled_of P S v h in
    let there = taken_there S e.task v.tags e.task.params v.objects e.taken in
    record {
      task = e.task;
      here = e.here;
      params = there.0;
      objects = All-from_recursion (λ id. id < length S.bodies) v.objects there.1;
      different = e.different;
      variables = e.long;
      types = λ k n type at declared.
          let own = carrier P S v typed (λ id. Unit {0}) (any_each v.objects) e k n at in
          own.own ∙ (sym own.declared ∙ declared);
    }

named_kept : (P : TypedProgram) (S : Plain) (v : Invocation) (c : Changes) → IsNamed P S v → IsNamed P (apply_changes S c) v
named_kept P S v c named = record {
  task = named.task;
  here = named.here;
  params = named.params;
  objects = λ k d l.
      let put = put_bodies S c.bodies S.bodies in
      let below : get_or v.objects k d < length S.bodies = named.objects k d l in
      omega (arith, below, put_length S c.bodies S.bodies, length-append put (map (body_in S) c.made));
  different = named.different;
  variables = named.variables;
  types = λ k n type at declared.
      let own = named.types k n type at declared in
      get_front S.tags c.tags n (slice_get_within S.tags n type own) ∙ own;
}

pub enabled_names : EnabledNames
enabled_names = record { enabled = enabled_named; kept = named_kept }

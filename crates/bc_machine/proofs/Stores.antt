-- Runs over the bodies given and over stores that have them.
use Rattle.std.proofs.Common.{◌≡◌, ℕ, Bool, true, false, cond, ◌==◌, List, [], ◌∷◌, refl, ap, ◌∙◌, subst}
use Rattle.std.specs.Prelude.{slice_get, Option, Some, None}
use Rattle.std.specs.Option.{option_map}
use Rattle.std.proofs.lemmas.Bool.{eqb-true}
use Rattle.std.proofs.lemmas.List.Elements.{All-head, All-tail}
use Rattle.std.proofs.lemmas.Option.{slice_get-map}
use Rattle.bc_data.specs.Typed.{TypedProgram, TypedTask}
use Rattle.bc_data.specs.declared.run.Invocation.{Invocation}
use Rattle.bc_data.specs.declared.run.Written.{Written}
use Rattle.bc_mean.specs.declared.plain.Plain.{Plain}
use Rattle.bc_mean.specs.Outcome.{body_run}
use Rattle.bc_mean.specs.Work.{Look, Work, Got, Gives, Stops, Faulted, Missing, Wrong, look_of}
use Rattle.bc_law_locality.specs.Laws.{Extends, Says}
use Rattle.bc_code.specs.Given.{given_look}
use Rattle.bc_code.specs.Runs.{IsRight, run_over, task_over}
use Rattle.bc_step.specs.Area.{AgreesWith}

-- A store that has the bodies given knows more than they do.
pub extends_store : (S : Plain) (gs : List Written) → AgreesWith S gs → Extends (given_look gs) (look_of S)
extends_store S [] a id b e = absurd (cc)
extends_store S (g ∷ gs) a id b e = at (g.id == id) refl (extends_store S gs (All-tail (λ (h : Written). slice_get S.bodies h.id ≡ Some h.body) g gs a) id b) e
  where
    at : (same : Bool) → (g.id == id) ≡ same → (given_look gs id ≡ Some b → slice_get S.bodies id ≡ Some b) → cond same (Some g.body) (given_look gs id) ≡ Some b → slice_get S.bodies id ≡ Some b
    at true is later e = subst (λ (n : ℕ). slice_get S.bodies n ≡ Some b) (eqb-true g.id id is) (All-head (λ (h : Written). slice_get S.bodies h.id ≡ Some h.body) g gs a ∙ e)
    at false is later e = later e

task_is_body : (P : TypedProgram) (S : Plain) (v : Invocation) (o : Option TypedTask) → task_over P (look_of S) o v ≡ body_run P S o v
task_is_body P S v None = refl
task_is_body P S v (Some t) = refl

-- over a whole store the run is the invocation's
pub run_is_body : (P : TypedProgram) (S : Plain) (v : Invocation) → run_over P (look_of S) v ≡ body_run P S (slice_get P.tasks v.task) v
run_is_body P S v = task_is_body P S v (slice_get P.tasks v.task)

-- Where a run over more is right, so is the run over less.
pub right_before : {A : Type 0} (L : Look) (g h : Got A) → ((w : Work) → h ≡ Stops Wrong w → ⊥) → Says L g h → IsRight g
right_before L (Gives x w) h right s = tt
right_before L (Stops (Faulted f) w) h right s = tt
right_before L (Stops (Missing id) w) h right s = tt
right_before L (Stops Wrong w) h right s = absurd (right w s.0)

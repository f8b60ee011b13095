-- The machine of an invocation that is enabled in the store of a book.
use Rattle.std.proofs.Common.{◌≡◌, ℕ, ◌<◌, inl, inr, List, [], ◌∷◌, length, map, Option, Some, refl, sym, ap, subst, ◌∙◌, arith}
use Rattle.std.specs.Prelude.{slice_get}
use Rattle.std.specs.List.{AllByRecursion, cons_option, filter_map}
use Rattle.std.proofs.lemmas.List.Elements.{recursion_from_All}
use Rattle.std.proofs.lemmas.Option.{slice_get_cases}
use Rattle.bc_data.specs.declared.run.Body.{Body}
use Rattle.bc_data.specs.declared.run.Invocation.{Invocation}
use Rattle.bc_mean.specs.Enabled.{IsEnabled}
use Rattle.bc_law_histories.proofs.Replaying.{replay_fits}
use Rattle.bc_code.specs.declared.code.Code.{Code}
use Rattle.bc_code.specs.Translation.{Translates}
use Rattle.bc_machine.specs.Running.{AreBodiesOf, IsRunOf}
use Rattle.bc_machine.proofs.Known.{objects_there}
use Rattle.bc_book_events.specs.declared.answers.Begun.{Begun}
use Rattle.bc_book_events.specs.declared.answers.Begun.TheVariants as begins
use Rattle.bc_book_events.specs.Book.{BookState, held_by}
use Rattle.bc_book_events.specs.Events.{Step, answers, begin}
use Rattle.bc_book_events.specs.Sound.{IsSoundBook}
use Rattle.bc_book.proofs.Events.{begin_as}

-- each of these objects has a body
one_more : (bodies : List Body) (id : ℕ) (ids : List ℕ) (o : Body) → slice_get bodies id ≡ Some o
    → map (slice_get bodies) ids ≡ map (λ (x : Body). Some x) (filter_map (slice_get bodies) ids)
    → map (slice_get bodies) (id ∷ ids) ≡ map (λ (x : Body). Some x) (filter_map (slice_get bodies) (id ∷ ids))
one_more bodies id ids x e rest =
    subst (λ (o : Option Body). o ∷ map (slice_get bodies) ids ≡ map (λ (y : Body). Some y) (cons_option o (filter_map (slice_get bodies) ids))) (sym e)
    (ap (λ (os : List (Option Body)). Some x ∷ os) rest)

all_there : (bodies : List Body) (ids : List ℕ) → AllByRecursion (λ id. id < length bodies) ids → map (slice_get bodies) ids ≡ map (λ (x : Body). Some x) (filter_map (slice_get bodies) ids)
all_there bodies [] a = refl
all_there bodies (id ∷ ids) a = elim ((slice_get_cases bodies id).1) [
  | inl f ↦ one_more bodies id ids _ f.2 (all_there bodies ids a.1)
  | inr f ↦ absurd (omega (arith, a.0, f.0))
]

module _ (b : BookState) (v : Invocation) (enabled : IsEnabled b.program b.store v) where
  abbrev own_bodies : List Body
  own_bodies = filter_map (slice_get b.store.bodies) v.objects

  -- it gets its bodies, and the book stays as it is
  begins_ready : begin 0 v b ≡ answers (begins.Ready own_bodies) b
  begins_ready = begin_as b 0 v _ enabled

  pub are_bodies : (bodies : List Body) → begins.Ready bodies ≡ begins.Ready own_bodies → AreBodiesOf b.store v.objects bodies
  are_bodies bodies e =
      let same : own_bodies ≡ bodies = cc in
      all_there b.store.bodies v.objects (recursion_from_All (λ id. id < length b.store.bodies) v.objects (objects_there b.program b.store v enabled))
      ∙ ap (map (λ (x : Body). Some x)) same

  pub is_run : (code : Code) → IsSoundBook b → Translates b.program code → IsRunOf b.program b.store code v
  is_run code sound translated = record {
    well_typed = sound.typed;
    translated = translated;
    fits = replay_fits.from_start b.program b.input b.history b.store sound.typed sound.bytes sound.short sound.replayed;
    enabled = enabled;
  }

  module _ (holds : held_by b.running 0 ≡ Some v) where
    pub ready : (begun : Begun) → ((w : Invocation) → held_by b.running 0 ≡ Some w → begun ≡ (begin 0 w b).answer) → begun ≡ begins.Ready own_bodies
    ready begun answer = answer v holds ∙ ap (λ (s : Step Begun). s.answer) begins_ready

    pub unchanged : (d : BookState) → ((w : Invocation) → held_by b.running 0 ≡ Some w → d ≡ (begin 0 w b).book) → d ≡ b
    unchanged d book = book v holds ∙ ap (λ (s : Step Begun). s.book) begins_ready

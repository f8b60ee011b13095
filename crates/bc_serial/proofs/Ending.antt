-- The end of a run over bodies that the store has.
use Rattle.std.proofs.Common.{◌≡◌, ℕ, Bool, false, cond, ◌==◌, inl, inr, List, [], ◌∷◌, Option, Some, None, refl, sym, ap, subst, ◌∙◌}
use Rattle.std.specs.Prelude.{slice_get}
use Rattle.std.specs.List.{AllByRecursion}
use Rattle.std.proofs.lemmas.Bool.{cases_Bool, eqb-true, not_from_true}
use Rattle.std.proofs.lemmas.List.Elements.{recursion_from_All}
use Rattle.std.proofs.lemmas.Option.{none-some}
use Rattle.bc_data.specs.declared.run.Body.{Body}
use Rattle.bc_data.specs.declared.run.Changes.{Changes}
use Rattle.bc_data.specs.declared.run.Fault.{Fault}
use Rattle.bc_data.specs.declared.run.Invocation.{Invocation}
use Rattle.bc_data.specs.declared.run.Outcome.{Outcome}
use Rattle.bc_data.specs.declared.run.Stop.{Stop}
use Rattle.bc_data.specs.declared.run.Written.{Written}
use Rattle.bc_mean.specs.declared.plain.Plain.{Plain}
use Rattle.bc_mean.specs.Changes.{same_body}
use Rattle.bc_mean.specs.Enabled.{IsEnabled}
use Rattle.bc_mean.specs.Outcome.{body_outcome}
use Rattle.bc_mean.specs.Work.{Look, look_of}
use Rattle.bc_code.specs.Given.{given_look, ids_of}
use Rattle.bc_step.specs.Area.{AgreesWith, AreaParts, given_of}
use Rattle.bc_machine.specs.declared.machine.Ended.TheVariants as ended
use Rattle.bc_machine.specs.Whole.{ComesTo}
use Rattle.bc_book_events.specs.declared.answers.Commit.{Commit}
use Rattle.bc_book_events.specs.declared.answers.Failing.{Failing}
use Rattle.bc_book_events.specs.declared.answers.Taken.TheVariants as taken
use Rattle.bc_book_events.specs.Book.{BookState}
use Rattle.bc_book_events.specs.Events.{Step, commit, commit_unless, commit_unmoved, fail, fail_unmoved, first_moved, is_moved}
use Rattle.bc_book_events.specs.Turns.{ends, runs_taken}
use Rattle.bc_book_events.proofs.Unmoved.{body_itself, none_moved}
use Rattle.bc_law_core.specs.Areas.{WasEnabled, changes_of}
use Rattle.bc_book.specs.Ends.{commits, fails}

-- a body that was given is the store's
module _ (S : Plain) where
  abbrev Has : Written → Type 0
  Has g = slice_get S.bodies g.id ≡ Some g.body

  given_own : (gs : List Written) → AllByRecursion Has gs → (id : ℕ) (x : Body) → given_look gs id ≡ Some x → slice_get S.bodies id ≡ Some x
  given_own [] a id x e = absurd (none-some x e)
  given_own (g ∷ gs) a id x e = elim (cases_Bool (g.id == id)) [
    | inl t ↦
        let at : Some g.body ≡ Some x = sym (ap (λ (c : Bool). cond c (Some g.body) (given_look gs id)) t) ∙ e in
        subst (λ (n : ℕ). slice_get S.bodies n ≡ Some x) (eqb-true g.id id t) (a.0 ∙ at)
    | inr f ↦ given_own gs a.1 id x (sym (ap (λ (c : Bool). cond c (Some g.body) (given_look gs id)) f) ∙ e)
  ]

  module _ (gs : List Written) (agrees : AgreesWith S gs) where
    stays : (id : ℕ) (o : Option Body) → given_look gs id ≡ o → is_moved o (slice_get S.bodies id) ≡ false
    stays id None e = refl
    stays id (Some x) e =
        ap (is_moved (Some x)) (given_own gs (recursion_from_All Has gs agrees) id x e)
        ∙ not_from_true (same_body x x) (body_itself x)

    none_found : (ids : List ℕ) → first_moved S (given_look gs) ids ≡ None
    none_found [] = refl
    none_found (id ∷ ids) = ap (λ (c : Bool). cond c (Some id) (first_moved S (given_look gs) ids)) (stays id (given_look gs id) refl) ∙ none_found ids

    pub as_whole : (ids : List ℕ) → first_moved S (given_look gs) ids ≡ first_moved S (look_of S) ids
    as_whole ids = none_found ids ∙ sym (none_moved S ids)

-- Events depend on the bodies that were given by whether one has moved.
module _ (b : BookState) (v : Invocation) (look other : Look) (touched : List ℕ) (alike : first_moved b.store look touched ≡ first_moved b.store other touched) where
  unless_alike : (c : Changes) (o : Option Stop) → commit_unless o look c touched 0 v b ≡ commit_unless o other c touched 0 v b
  unless_alike c (Some s) = refl
  unless_alike c None = ap (λ (m : Option ℕ). commit_unmoved m c touched 0 v b) alike

  commit_alike : (c : Changes) → commit look c touched 0 v b ≡ commit other c touched 0 v b
  unfolding commit
  commit_alike c = unless_alike c b.stop

  fail_alike : (f : Fault) → fail look f touched 0 v b ≡ fail other f touched 0 v b
  unfolding fail
  fail_alike f = ap (λ (m : Option ℕ). fail_unmoved m f touched 0 v b) alike

module _ (b : BookState) (v : Invocation) (a : AreaParts) where
  abbrev gs : List Written
  gs = given_of a.held

  abbrev behind : Outcome → BookState
  behind o = ends o.ran o.touched 0 v b

  pub commits_end : ComesTo b.program b.store v ended.Commit a → (commits 0 a b).book ≡ runs_taken (taken.Got v) 0 b
  commits_end comes =
      ap (λ (w : Invocation). (commit (given_look gs) (changes_of b.store a) (ids_of gs) 0 w b).book) comes.invocation
      ∙ ap (λ (s : Step Commit). s.book) (commit_alike b v (given_look gs) (look_of b.store) (ids_of gs) (as_whole b.store gs comes.agrees (ids_of gs)) (changes_of b.store a))
      ∙ sym (ap behind (ap (body_outcome b.program b.store) (sym comes.invocation) ∙ comes.tells.run b.store comes.agrees))

  pub fails_end : (f : Fault) → ComesTo b.program b.store v (ended.Faulted f) a → (fails f 0 a b).book ≡ runs_taken (taken.Got v) 0 b
  fails_end f comes =
      ap (λ (w : Invocation). (fail (given_look gs) f (ids_of gs) 0 w b).book) comes.invocation
      ∙ ap (λ (s : Step Failing). s.book) (fail_alike b v (given_look gs) (look_of b.store) (ids_of gs) (as_whole b.store gs comes.agrees (ids_of gs)) f)
      ∙ sym (ap behind (ap (body_outcome b.program b.store) (sym comes.invocation) ∙ comes.tells.run b.store comes.agrees))

  pub was_enabled : (e : _) → IsEnabled b.program b.store v → ComesTo b.program b.store v e a → WasEnabled b.program a
  was_enabled e on comes = record {
    store = b.store;
    enabled = subst (IsEnabled b.program b.store) (sym comes.invocation) on;
    agrees = comes.agrees;
  }

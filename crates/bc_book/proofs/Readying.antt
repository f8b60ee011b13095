-- What is ready for a commit.
use Rattle.std.proofs.Common.{◌≡◌, ℕ, Bool, true, false, cond, ◌&&◌, List, map, filter, Option, Some, None, Ok, Err, sym, ap, subst, ◌∙◌}
use Rattle.std.specs.Prelude.{IfNone, IfOk, IfSome, OnErr, Result}
use Rattle.bc_data.specs.declared.run.Changes.{Changes}
use Rattle.bc_data.specs.declared.run.Invocation.{Invocation}
use Rattle.bc_mean.specs.declared.plain.Plain.{Plain}
use Rattle.bc_mean.specs.Changes.{apply_changes}
use Rattle.bc_mean.specs.Serial.{Failed, listed}
use Rattle.bc_mean.specs.Store.{Fits}
use Rattle.bc_mean.specs.Work.{look_of}
use Rattle.bc_mean.proofs.Orders.{listed_filter}
use Rattle.bc_store.specs.Resolved.{IsResolved}
use Rattle.bc_store.specs.Store.{CanPublish}
use Rattle.bc_params_sets.specs.Kept.{AreSets, Kept}
use Rattle.bc_book_reshaped.specs.declared.reshaped.Reshaped.{Reshaped}
use Rattle.bc_book_reshaped.specs.Laws.{ReshapedAreAll}
use Rattle.bc_book_reshaped.specs.Reshaped.{id_of, reshaped_in}
use Rattle.bc_book_events.specs.Book.{BookState}
use Rattle.bc_book_events.specs.Reshaped.{ReshapesOnly}
use Rattle.bc_mean.specs.Serial.{is_crowded}
use Rattle.bc_book_lists.specs.declared.find.Found.{Found}
use Rattle.bc_book_lists.specs.Search.{AreBooks, AreOf, IsBefore, IsFound, IsSearch}
use Rattle.bc_book.specs.Commits.{ArePartsOf}

pub on_err : {A E : Type 0} (r : Result A E) (X : Type 0) → X → OnErr r X
on_err (Ok x) X h = tt
on_err (Err e) X h = h

pub err_of : {A E : Type 0} (r : Result A E) (e : E) (X : Type 0) → r ≡ Err e → OnErr r X → X
err_of r e X is h = subst (λ (q : Result _ _). OnErr q X) is h

pub some_of : {A E : Type 0} (r : Result (Option A) E) (o : Option A) (x : A) (F : A → Type 0) → r ≡ Ok o → o ≡ Some x → IfOk r (λ o. IfSome o F) → F x
some_of r o x F is some h = subst (λ (q : Option _). IfSome q F) some (subst (λ (q : Result _ _). IfOk q (λ o. IfSome o F)) is h)

pub none_of : {A E : Type 0} (r : Result (Option A) E) (o : Option A) (X : Type 0) → r ≡ Ok o → o ≡ None → IfOk r (λ o. IfNone o X) → X
none_of r o X is none h = subst (λ (q : Option _). IfNone q X) none (subst (λ (q : Result _ _). IfOk q (λ o. IfNone o X)) is h)

-- what the search says that found something, and one that found too many
abbrev pub WillFind : Invocation → List ℕ → List ℕ → List Invocation → List (Option Invocation) → List Failed → Kept → List Invocation → ℕ → Found → Type 0
WillFind v reshaped changed vs held fs kept named enabled f =
    (b : BookState) (T : Plain) (worker : ℕ) → IsSearch b T worker v reshaped → AreBooks b vs held fs → AreOf b.program T kept → IsBefore b reshaped named enabled → IsFound b T worker v reshaped changed f.appended f.falls

abbrev pub WillCrowd : Invocation → List ℕ → List Invocation → List (Option Invocation) → List Failed → Kept → List Invocation → ℕ → Type 0
WillCrowd v reshaped vs held fs kept named enabled =
    (b : BookState) (T : Plain) (worker : ℕ) → IsSearch b T worker v reshaped → AreBooks b vs held fs → AreOf b.program T kept → IsBefore b reshaped named enabled → is_crowded b.program T ≡ true

pub none_left : (falls : Bool) (p : Invocation → Bool) (vs : List Invocation) (w : Invocation) → listed vs w ≡ false → listed (cond falls (filter p vs) vs) w ≡ false
none_left true p vs w h = listed_filter p vs w ∙ ap (λ (b : Bool). b && p w) h
none_left false p vs w h = h

module _ (b : BookState) (worker : ℕ) (v : Invocation) (S S1 : Plain) (c : Changes) (vs : List Invocation) (held : List (Option Invocation)) (fs : List Failed) (k : Kept) (p : ArePartsOf b worker v S vs held fs k) (same : S1 ≡ S) where
  own : b.store ≡ S1
  own = p.store ∙ sym same

  pub its_fit : Fits b.program S1
  its_fit = subst (λ (X : Plain). Fits b.program X) own p.fits

  pub its_sets : AreSets b.program (look_of S1) S1.tags k
  its_sets = subst (λ (X : Plain). AreSets b.program (look_of X) X.tags k) own p.sets.sets

  pub sets_back : (l : Kept) → AreSets b.program (look_of S1) S1.tags l → AreOf b.program b.store l
  sets_back l are = subst (λ (X : Plain). AreOf b.program X l) (sym own) (record { typed = p.sound.typed; sets = are })

  pub sets_behind : (l : Kept) → AreSets b.program (look_of (apply_changes S1 c)) (apply_changes S1 c).tags l → AreOf b.program (apply_changes b.store c) l
  sets_behind l are = subst (λ (X : Plain). AreOf b.program (apply_changes X c) l) (sym own) (record { typed = p.sound.typed; sets = are })

  pub its_reshaped : ReshapedAreAll → (reshaped : List ℕ) (ms : List Reshaped) → reshaped ≡ map id_of ms → ms ≡ reshaped_in S1 c → CanPublish S c → IsResolved c → ReshapesOnly reshaped b.store (apply_changes b.store c)
  its_reshaped law reshaped ms e is can resolved =
      subst (λ (l : List ℕ). ReshapesOnly l b.store (apply_changes b.store c)) (sym (e ∙ ap (map id_of) is))
      (subst (λ (X : Plain). ReshapesOnly (map id_of (reshaped_in S1 c)) X (apply_changes X c)) (sym own) (law S1 c (subst (λ (X : Plain). CanPublish X c) (sym same) can) resolved))

  pub its_search : (reshaped : List ℕ) → ReshapesOnly reshaped b.store (apply_changes b.store c) → IsSearch b (apply_changes b.store c) worker v reshaped
  its_search reshaped reshapes = record { sound = p.sound; held = p.has; fits = p.fits; reshapes = reshapes }

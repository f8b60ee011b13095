-- Places without an object, and objects brought in one after another.
use Rattle.std.proofs.Common.{◌≡◌, ℕ, ◌+◌, ◌<◌, ◌≤◌, inl, inr, false, ◌==◌, ltb, List, [], ◌∷◌, ◌++◌, length, take, get_or, Option, None, refl, sym, ap, ◌∙◌, subst, arith, eqb-true, eq-eqb}
use Rattle.std.specs.Prelude.{slice_get}
use Rattle.std.specs.List.{All}
use Rattle.std.proofs.lemmas.Bool.{false≢true, or_left, cases_Bool, cases_lt, cond-true, cond-false, lt-ltb, le-ltb, eqb-false}
use Rattle.std.proofs.lemmas.Option.{slice_get_past}
use Rattle.std.proofs.lemmas.List.{take_more}
use Rattle.std.proofs.lemmas.List.Elements.{All-cons, All-nil}
use Rattle.bc_data.specs.declared.run.Body.{Body}
use Rattle.bc_data.specs.Typed.{TypedParam, TypedTask}
use Rattle.bc_params_sets.specs.declared.place.Place.{Place}
use Rattle.bc_params_sets.specs.declared.place.TaskSets.{TaskSets}
use Rattle.bc_params_sets.specs.Members.{has, IsRising}
use Rattle.bc_params_sets.specs.Kept.{IsPlace, ArePlaces, IsTaskSets, AreTasks}
use Rattle.bc_params.specs.Look.{put_look, look_below, nobody}
use Rattle.bc_params.specs.Places.{AllRise}

places_push : (look : ℕ → Option Body) (ps : List TypedParam) (qs : List Place) (p : TypedParam) (q : Place) → ArePlaces look ps qs → IsPlace look p q → ArePlaces look (ps ++ p ∷ []) (qs ++ q ∷ [])
places_push look [] [] p q a h = (h, tt)
places_push look [] (r ∷ rs) p q a h = absurd a
places_push look (s ∷ ss) [] p q a h = absurd a
places_push look (s ∷ ss) (r ∷ rs) p q a h = (a.0, places_push look ss rs p q a.1 h)

pub places_more : (look : ℕ → Option Body) (ps : List TypedParam) (i : ℕ) (d : TypedParam) (qs : List Place) (q : Place) → i < length ps → ArePlaces look (take i ps) qs → IsPlace look (get_or ps i d) q
    → ArePlaces look (take (i + 1) ps) (qs ++ q ∷ [])
places_more look ps i d qs q l a h = subst (λ (xs : List TypedParam). ArePlaces look xs (qs ++ q ∷ [])) (sym (take_more ps i d l)) (places_push look (take i ps) qs (get_or ps i d) q a h)

tasks_push : (look : ℕ → Option Body) (ts : List TypedTask) (ss : List TaskSets) (t : TypedTask) (s : TaskSets) → AreTasks look ts ss → IsTaskSets look t s → AreTasks look (ts ++ t ∷ []) (ss ++ s ∷ [])
tasks_push look [] [] t s a h = (h, tt)
tasks_push look [] (r ∷ rs) t s a h = absurd a
tasks_push look (u ∷ us) [] t s a h = absurd a
tasks_push look (u ∷ us) (r ∷ rs) t s a h = (a.0, tasks_push look us rs t s a.1 h)

pub tasks_more : (look : ℕ → Option Body) (ts : List TypedTask) (i : ℕ) (d : TypedTask) (ss : List TaskSets) (s : TaskSets) → i < length ts → AreTasks look (take i ts) ss → IsTaskSets look (get_or ts i d) s
    → AreTasks look (take (i + 1) ts) (ss ++ s ∷ [])
tasks_more look ts i d ss s l a h = subst (λ (xs : List TypedTask). AreTasks look xs (ss ++ s ∷ [])) (sym (take_more ts i d l)) (tasks_push look (take i ts) ss (get_or ts i d) s a h)

empty_rises : (xs : List ℕ) → ((x : ℕ) → has xs x ≡ false) → IsRising xs
empty_rises [] h = λ i j d l m. absurd (omega arith)
empty_rises (y ∷ ys) h = absurd (false≢true (sym (h y) ∙ or_left (y == y) (has ys y) (eq-eqb y y refl)))

places_rise : (ps : List TypedParam) (qs : List Place) → ArePlaces nobody ps qs → All (λ q. IsRising q.objects.members) qs
places_rise [] [] a = All-nil (λ (q : Place). IsRising q.objects.members)
places_rise [] (q ∷ qs) a = absurd a
places_rise (p ∷ ps) [] a = absurd a
places_rise (p ∷ ps) (q ∷ qs) a = All-cons (λ (q : Place). IsRising q.objects.members) q qs (empty_rises q.objects.members (λ x. a.0.objects x)) (places_rise ps qs a.1)

pub nobody_rises : (ts : List TypedTask) (ss : List TaskSets) → AreTasks nobody ts ss → AllRise ss
nobody_rises [] [] a = All-nil (λ (s : TaskSets). All (λ q. IsRising q.objects.members) s.places)
nobody_rises [] (s ∷ ss) a = absurd a
nobody_rises (t ∷ ts) [] a = absurd a
nobody_rises (t ∷ ts) (s ∷ ss) a = All-cons (λ (s : TaskSets). All (λ q. IsRising q.objects.members) s.places) s ss (places_rise t.params s.places a.0.places) (nobody_rises ts ss a.1)

-- objects brought in up to a number
pub below_none : (look : ℕ → Option Body) (x : ℕ) → look_below 0 look x ≡ nobody x
below_none look x = cond-false (ltb x 0) (look x) None (le-ltb x 0 (omega arith))

pub below_free : (n : ℕ) (look : ℕ → Option Body) → look_below n look n ≡ None
below_free n look = cond-false (ltb n n) (look n) None (le-ltb n n (omega arith))

same_below : (n : ℕ) (look : ℕ → Option Body) (x : ℕ) → (x ≡ n → ⊥) → look_below (n + 1) look x ≡ look_below n look x
same_below n look x ne = elim (cases_lt x n) [
  | inl l ↦ cond-true (ltb x (n + 1)) (look x) None (lt-ltb x (n + 1) (omega arith)) ∙ sym (cond-true (ltb x n) (look x) None (lt-ltb x n l))
  | inr l ↦ cond-false (ltb x (n + 1)) (look x) None (le-ltb x (n + 1) (omega arith)) ∙ sym (cond-false (ltb x n) (look x) None (le-ltb x n l))
]

pub below_more : (n : ℕ) (look : ℕ → Option Body) (x : ℕ) → look_below (n + 1) look x ≡ put_look n (look n) (look_below n look) x
below_more n look x = elim (cases_Bool (x == n)) [
  | inl s ↦ let e : x ≡ n = eqb-true x n s in
      cond-true (ltb x (n + 1)) (look x) None (lt-ltb x (n + 1) (omega arith)) ∙ (ap look e ∙ sym (cond-true (x == n) (look n) (look_below n look x) s))
  | inr s ↦ same_below n look x (eqb-false x n s) ∙ sym (cond-false (x == n) (look n) (look_below n look x) s)
]

pub below_all : (n : ℕ) (bs : List Body) → length bs ≤ n → (x : ℕ) → slice_get bs x ≡ look_below n (slice_get bs) x
below_all n bs h x = elim (cases_lt x n) [
  | inl l ↦ sym (cond-true (ltb x n) (slice_get bs x) None (lt-ltb x n l))
  | inr l ↦ slice_get_past bs x (omega arith) ∙ sym (cond-false (ltb x n) (slice_get bs x) None (le-ltb x n l))
]

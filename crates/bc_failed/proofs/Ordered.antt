-- Putting one more into the order keeps it sorted and stable, and loses nothing.
use Rattle.std.proofs.Common.{◌≡◌, ℕ, zero, suc, Bool, true, false, not, cond, ◌&&◌, ◌||◌, List, [], ◌∷◌, filter, map, take, refl, sym, ap, ◌∙◌, inl, inr}
use Rattle.std.proofs.lemmas.List.{length-map}
use Rattle.std.specs.Cmp.{IsStrictWeakOrder}
use Rattle.std.specs.List.{AllByRecursion, list_any}
use Rattle.std.specs.List.Sorted.{IsPermutation, IsSortedBy, IsStableBy, ties}
use Rattle.std.proofs.lemmas.Bool.{false≢true}
use Rattle.std.proofs.lemmas.List.Kept.{AllPairs-filter}
use Rattle.std.proofs.lemmas.List.Sorted.{ranks_by, length_permutation, list_any-IsPermutation, IsPermutation-cons, IsPermutation-middle, IsPermutation-refl, IsPermutation-sym, IsPermutation-trans}
use Rattle.bc_data.specs.declared.run.Invocation.{Invocation}
use Rattle.bc_mean.specs.Orders.{precedes}
use Rattle.bc_mean.specs.Serial.{Failed, has_failure, listed, same_invocation}
use Rattle.bc_mean.proofs.Lists.{Chain, chain_from_pairs, chain_map, pairs_from_chain}
use Rattle.bc_mean.proofs.Orders.{invocations_total, precedes_trans, same_itself, strictly_ordered}
use Rattle.bc_data.specs.declared.run.Failure.{Failure}
use Rattle.bc_failed.specs.Laws.{Once, OrderAscends, OrderExact, FilterOnce, FilterExact}
use Rattle.bc_failed.specs.Ordered.{failure_of, put, in_order, ordered}
use Rattle.bc_failed.proofs.Stable.{MayPrecede, one_sorted, sorted_chain}

abbrev pub before : Failure → Failure → Bool
before f g = precedes f.v g.v

pub before_ranks : IsStrictWeakOrder before
before_ranks = ranks_by invocations_total (λ (f : Failure). f.v)

-- what holds of all and of one more holds after it is put
each_step : (P : Failure → Type 0) (b : Bool) (f g : Failure) (gs hs : List Failure) → P f → P g → AllByRecursion P gs → AllByRecursion P hs → AllByRecursion P (cond b (g ∷ hs) (f ∷ g ∷ gs))
each_step P true f g gs hs h k l m = (k, m)
each_step P false f g gs hs h k l m = (h, (k, l))

each_put : (P : Failure → Type 0) (f : Failure) (gs : List Failure) → P f → AllByRecursion P gs → AllByRecursion P (put f gs)
each_put P f [] h k = (h, tt)
each_put P f (g ∷ gs) h k = each_step P (before g f) f g gs (put f gs) h k.0 k.1 (each_put P f gs h k.1)

-- sorted
far : (f g : Failure) (gs : List Failure) → before g f ≡ false → AllByRecursion (MayPrecede before g) gs → AllByRecursion (MayPrecede before f) gs
far f g [] e h = tt
far f g (w ∷ ws) e h = (before_ranks.chain w g f h.0 e, far f g ws e h.1)

sorted_step : (b : Bool) (f g : Failure) (gs hs : List Failure) → before g f ≡ b → Chain (MayPrecede before) (g ∷ gs) → AllByRecursion (MayPrecede before g) gs → (before f g ≡ false → AllByRecursion (MayPrecede before g) hs) → Chain (MayPrecede before) hs → Chain (MayPrecede before) (cond b (g ∷ hs) (f ∷ g ∷ gs))
sorted_step true f g gs hs e h k l m = (l (before_ranks.one_way g f e), m)
sorted_step false f g gs hs e h k l m = ((e, far f g gs e k), h)

sorted_put : (f : Failure) (gs : List Failure) → Chain (MayPrecede before) gs → Chain (MayPrecede before) (put f gs)
sorted_put f [] h = (tt, tt)
sorted_put f (g ∷ gs) h = sorted_step (before g f) f g gs (put f gs) refl h h.0 (λ e. each_put (MayPrecede before g) f gs e h.0) (sorted_put f gs h.1)

sorted : (fs : List Failure) → Chain (MayPrecede before) (in_order fs)
sorted [] = tt
sorted (f ∷ fs) = sorted_put f (in_order fs) (sorted fs)

-- stable: of two that tie with x, neither precedes the other
untied : (a b c d : Bool) → (not a && not b) ≡ true → (not c && not d) ≡ true → (b ≡ false) × (c ≡ false)
untied a true c d h k = elim (cases a h) [ ]
  where
    cases : (a : Bool) → (not a && false) ≡ true → ⊥
    cases true h = false≢true h
    cases false h = false≢true h
untied a false true d h k = absurd (false≢true k)
untied a false false d h k = (refl, refl)

not_before : (x f g : Failure) → ties before x f ≡ true → ties before x g ≡ true → before g f ≡ false
not_before x f g h k =
    let e = untied (before x g) (before g x) (before x f) (before f x) k h in before_ranks.chain g x f e.0 e.1

swapped : (a b : Bool) (f g : Failure) (l : List Failure) → (a ≡ true → b ≡ true → ⊥) → cond b (g ∷ cond a (f ∷ l) l) (cond a (f ∷ l) l) ≡ cond a (f ∷ cond b (g ∷ l) l) (cond b (g ∷ l) l)
swapped true true f g l h = absurd (h refl refl)
swapped true false f g l h = refl
swapped false true f g l h = refl
swapped false false f g l h = refl

stable_step : (b : Bool) (x f g : Failure) (gs hs : List Failure) → before g f ≡ b → filter (ties before x) hs ≡ filter (ties before x) (f ∷ gs) → filter (ties before x) (cond b (g ∷ hs) (f ∷ g ∷ gs)) ≡ filter (ties before x) (f ∷ g ∷ gs)
stable_step true x f g gs hs e h =
    ap (λ (l : List Failure). cond (ties before x g) (g ∷ l) l) h
    ∙ swapped (ties before x f) (ties before x g) f g (filter (ties before x) gs) (λ p q. false≢true (sym (not_before x f g p q) ∙ e))
stable_step false x f g gs hs e h = refl

stable_put : (x f : Failure) (gs : List Failure) → filter (ties before x) (put f gs) ≡ filter (ties before x) (f ∷ gs)
stable_put x f [] = refl
stable_put x f (g ∷ gs) = stable_step (before g f) x f g gs (put f gs) refl (stable_put x f gs)

stable : (x : Failure) (fs : List Failure) → filter (ties before x) (in_order fs) ≡ filter (ties before x) fs
stable x [] = refl
stable x (f ∷ fs) = stable_put x f (in_order fs) ∙ ap (λ (l : List Failure). cond (ties before x f) (f ∷ l) l) (stable x fs)

-- what a stable sort makes of a list
pub sorted_is : (fs gs : List Failure) → IsSortedBy before gs → IsStableBy before fs gs → gs ≡ in_order fs
sorted_is fs gs h k = one_sorted before before_ranks gs (in_order fs) (sorted_chain before before_ranks gs h) (sorted fs) (λ x. k x ∙ sym (stable x fs))

-- the same failures
moved_step : (b : Bool) (f g : Failure) (gs hs : List Failure) → IsPermutation (f ∷ gs) hs → IsPermutation (f ∷ g ∷ gs) (cond b (g ∷ hs) (f ∷ g ∷ gs))
moved_step true f g gs hs h =
    IsPermutation-trans (f ∷ g ∷ gs) (g ∷ f ∷ gs) (g ∷ hs) (IsPermutation-sym (g ∷ f ∷ gs) (f ∷ g ∷ gs) (IsPermutation-middle (g ∷ []) f gs)) (IsPermutation-cons g (f ∷ gs) hs h)
moved_step false f g gs hs h = IsPermutation-refl (f ∷ g ∷ gs)

moved_put : (f : Failure) (gs : List Failure) → IsPermutation (f ∷ gs) (put f gs)
moved_put f [] = IsPermutation-refl (f ∷ [])
moved_put f (g ∷ gs) = moved_step (before g f) f g gs (put f gs) (moved_put f gs)

moved : (fs : List Failure) → IsPermutation fs (in_order fs)
moved [] = IsPermutation-refl []
moved (f ∷ fs) = IsPermutation-trans (f ∷ fs) (f ∷ in_order fs) (put f (in_order fs)) (IsPermutation-cons f fs (in_order fs) (moved fs)) (moved_put f (in_order fs))

any_map : (v : Invocation) (fs : List Failed) → list_any (λ (g : Failure). same_invocation v g.v) (map failure_of fs) ≡ has_failure fs v
any_map v [] = refl
any_map v (f ∷ fs) = ap (λ (b : Bool). same_invocation v f.v || b) (any_map v fs)

listed_map : (v : Invocation) (gs : List Failure) → listed (map (λ (g : Failure). g.v) gs) v ≡ list_any (λ (g : Failure). same_invocation v g.v) gs
listed_map v [] = refl
listed_map v (g ∷ gs) = ap (λ (b : Bool). same_invocation v g.v || b) (listed_map v gs)

has_ordered : (fs : List Failed) (v : Invocation) → list_any (λ (g : Failure). same_invocation v g.v) (ordered fs) ≡ has_failure fs v
has_ordered fs v = sym (list_any-IsPermutation (λ (g : Failure). same_invocation v g.v) (map failure_of fs) (ordered fs) (moved (map failure_of fs))) ∙ any_map v fs

pub order_exact : OrderExact
order_exact = record {
  permutation = λ fs. moved (map failure_of fs);
  length = λ fs. length_permutation (map failure_of fs) (ordered fs) (moved (map failure_of fs)) ∙ length-map fs failure_of;
  has = has_ordered;
  listed = λ fs v. listed_map v (ordered fs) ∙ has_ordered fs v;
}

-- strictly ascending
abbrev Ascends : Failure → Failure → Type 0
Ascends f g = precedes f.v g.v ≡ true

abbrev Other : Failure → Failure → Type 0
Other f g = same_invocation f.v g.v ≡ false

never_same : (v w : Invocation) → v ≡ w → same_invocation v w ≡ false → ⊥
never_same v w e h = false≢true (sym h ∙ ap (same_invocation v) (sym e) ∙ same_itself v)

first_before : (f g : Failure) → Other f g → before g f ≡ false → Ascends f g
first_before f g h e = elim (strictly_ordered.total f.v g.v) [
  | inl q ↦ absurd (never_same f.v g.v q h)
  | inr d ↦ elim d [ inl l ↦ l | inr l ↦ absurd (false≢true (sym e ∙ l)) ]
]

later : (f g : Failure) (gs : List Failure) → Ascends f g → AllByRecursion (Ascends g) gs → AllByRecursion (Ascends f) gs
later f g [] h k = tt
later f g (w ∷ ws) h k = (precedes_trans f.v g.v w.v h k.0, later f g ws h k.1)

ascends_step : (b : Bool) (f g : Failure) (gs hs : List Failure) → before g f ≡ b → Other f g → Chain Ascends (g ∷ gs) → AllByRecursion (Ascends g) gs → (Ascends g f → AllByRecursion (Ascends g) hs) → Chain Ascends hs → Chain Ascends (cond b (g ∷ hs) (f ∷ g ∷ gs))
ascends_step true f g gs hs e o h k l m = (l e, m)
ascends_step false f g gs hs e o h k l m = let a : Ascends f g = first_before f g o e in ((a, later f g gs a k), h)

ascends_put : (f : Failure) (gs : List Failure) → AllByRecursion (Other f) gs → Chain Ascends gs → Chain Ascends (put f gs)
ascends_put f [] o h = (tt, tt)
ascends_put f (g ∷ gs) o h = ascends_step (before g f) f g gs (put f gs) refl o.0 h h.0 (λ e. each_put (Ascends g) f gs e h.0) (ascends_put f gs o.1 h.1)

others : (f : Failure) (fs : List Failed) → AllByRecursion (λ g. same_invocation f.v g.v ≡ false) fs → AllByRecursion (Other f) (in_order (map failure_of fs))
others f [] h = tt
others f (g ∷ gs) h = each_put (Other f) (failure_of g) (in_order (map failure_of gs)) h.0 (others f gs h.1)

ascends : (fs : List Failed) → Chain (λ f g. same_invocation f.v g.v ≡ false) fs → Chain Ascends (ordered fs)
ascends [] h = tt
ascends (f ∷ fs) h = ascends_put (failure_of f) (ordered fs) (others (failure_of f) fs h.0) (ascends fs h.1)

from_once : (fs : List Failed) → Once fs → Chain Ascends (ordered fs)
from_once fs h = ascends fs (chain_from_pairs (λ f g. same_invocation f.v g.v ≡ false) fs h)

each_first : (P : Failure → Type 0) (n : ℕ) (gs : List Failure) → AllByRecursion P gs → AllByRecursion P (take n gs)
each_first P zero gs h = tt
each_first P (suc n) [] h = tt
each_first P (suc n) (g ∷ gs) h = (h.0, each_first P n gs h.1)

chain_first : (n : ℕ) (gs : List Failure) → Chain Ascends gs → Chain Ascends (take n gs)
chain_first zero gs h = tt
chain_first (suc n) [] h = tt
chain_first (suc n) (g ∷ gs) h = (each_first (Ascends g) n gs h.0, chain_first n gs h.1)

pub order_ascends : OrderAscends
order_ascends = record {
  failures = λ fs h. pairs_from_chain Ascends (ordered fs) (from_once fs h);
  invocations = λ fs h. pairs_from_chain (λ v w. precedes v w ≡ true) (map (λ (f : Failure). f.v) (ordered fs)) (chain_map Ascends (λ v w. precedes v w ≡ true) (λ (f : Failure). f.v) (λ f g e. e) (ordered fs) (from_once fs h));
  first = λ fs n h. pairs_from_chain Ascends (take n (ordered fs)) (chain_first n (ordered fs) (from_once fs h));
}

pub filter_once : FilterOnce
filter_once p fs h = AllPairs-filter (λ f g. same_invocation f.v g.v ≡ false) p fs h

kept_step : (c m l : Bool) → m ≡ l → (c || m) ≡ ((c && true) || l)
kept_step true m l e = refl
kept_step false m l e = e

left_step : (c m l : Bool) → m ≡ l → m ≡ ((c && false) || l)
left_step true m l e = e
left_step false m l e = e

exact_step : (b : Bool) (f : Failed) (gs : List Failed) (v : Invocation) (l : Bool) → has_failure gs v ≡ l → has_failure (cond b (f ∷ gs) gs) v ≡ ((same_invocation v f.v && b) || l)
exact_step true f gs v l h = kept_step (same_invocation v f.v) (has_failure gs v) l h
exact_step false f gs v l h = left_step (same_invocation v f.v) (has_failure gs v) l h

pub filter_exact : FilterExact
filter_exact p [] v = refl
filter_exact p (f ∷ fs) v = exact_step (p f) f (filter p fs) v (list_any (λ g. same_invocation v g.v && p g) fs) (filter_exact p fs v)

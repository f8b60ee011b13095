-- What filtering a list of invocations leaves, and what one that moves leaves.
use Rattle.std.proofs.Common.{◌≡◌, Bool, true, false, not, cond, ◌&&◌, ◌||◌, List, [], ◌∷◌, refl, sym, ap, subst, ◌∙◌, Option, Some}
use Rattle.std.specs.List.{AllByRecursion, find}
use Rattle.std.specs.Set.{remove_key}
use Rattle.std.proofs.lemmas.List.Kept.{AllPairs-filter}
use Rattle.bc_data.specs.declared.run.Invocation.{Invocation}
use Rattle.bc_mean.specs.Serial.{listed, same_invocation}
use Rattle.bc_mean.proofs.Lists.{Chain, chain_from_pairs, pairs_from_chain}
use Rattle.bc_mean.proofs.Orders.{both_ways, same_true, same_itself, listed_here, listed_later, listed_filter, each_listed}
use Rattle.bc_pending.specs.Laws.{Once, FilterOnce, FilterExact, MoveExact}

pub filter_once : FilterOnce
filter_once p vs h = AllPairs-filter (λ v w. same_invocation v w ≡ false) p vs h

pub filter_exact : FilterExact
filter_exact p vs v = listed_filter p vs v

abbrev Other : Invocation → Invocation → Type 0
Other v w = same_invocation v w ≡ false

same_turned : (v w : Invocation) → same_invocation v w ≡ true → same_invocation w v ≡ true
same_turned v w h = subst (λ (u : Invocation). same_invocation u v ≡ true) (same_true v w h) (same_itself v)

same_both : (v w : Invocation) → same_invocation v w ≡ same_invocation w v
same_both v w = both_ways (same_invocation v w) (same_invocation w v) (same_turned v w) (same_turned w v)

-- the first that passes is listed
found_step : (b : Bool) (x v : Invocation) (xs : List Invocation) (r : Option Invocation) → (r ≡ Some v → listed xs v ≡ true) → cond b (Some x) r ≡ Some v → listed (x ∷ xs) v ≡ true
found_step true x v xs r f h = let e : x ≡ v = cc in subst (λ (u : Invocation). listed (x ∷ xs) u ≡ true) e (listed_here x xs)
found_step false x v xs r f h = listed_later x xs v (f h)

found_listed : (p : Invocation → Bool) (vs : List Invocation) (v : Invocation) → find p vs ≡ Some v → listed vs v ≡ true
found_listed p [] v h = cc
found_listed p (x ∷ xs) v h = found_step (p x) x v xs (find p xs) (found_listed p xs v) h

-- what holds of each holds without the first that passes
cond_each : (P : Invocation → Type 0) (b : Bool) (x : Invocation) (xs ys : List Invocation) → P x → AllByRecursion P xs → AllByRecursion P ys → AllByRecursion P (cond b xs (x ∷ ys))
cond_each P true x xs ys h k l = k
cond_each P false x xs ys h k l = (h, l)

each_left : (P : Invocation → Type 0) (p : Invocation → Bool) (xs : List Invocation) → AllByRecursion P xs → AllByRecursion P (remove_key p xs)
each_left P p [] h = tt
each_left P p (x ∷ xs) h = cond_each P (p x) x xs (remove_key p xs) h.0 h.1 (each_left P p xs h.1)

cond_chain : (b : Bool) (x : Invocation) (xs ys : List Invocation) → AllByRecursion (Other x) ys → Chain Other xs → Chain Other ys → Chain Other (cond b xs (x ∷ ys))
cond_chain true x xs ys h k l = k
cond_chain false x xs ys h k l = (h, l)

chain_left : (p : Invocation → Bool) (xs : List Invocation) → Chain Other xs → Chain Other (remove_key p xs)
chain_left p [] h = tt
chain_left p (x ∷ xs) h = cond_chain (p x) x xs (remove_key p xs) (each_left (Other x) p xs h.0) h.1 (chain_left p xs h.1)

absent : (x : Invocation) (xs : List Invocation) → AllByRecursion (Other x) xs → listed xs x ≡ false
absent x [] h = refl
absent x (y ∷ ys) h = rw (h.0, absent x ys h.1) refl

-- Where the first one is v: one w in question is v itself, or another.
here_step : (b : Bool) (x w : Invocation) (xs : List Invocation) → AllByRecursion (Other x) xs → same_invocation w x ≡ b → listed xs w ≡ ((b || listed xs w) && not b)
here_step true x w xs h e = subst (λ (u : Invocation). listed xs u ≡ false) (sym (same_true w x e)) (absent x xs h)
here_step false x w xs h e = both (listed xs w)
  where
    both : (b : Bool) → b ≡ ((false || b) && true)
    both true = refl
    both false = refl

here : (x w : Invocation) (xs : List Invocation) → AllByRecursion (Other x) xs → listed xs w ≡ (listed (x ∷ xs) w && not (same_invocation x w))
here x w xs h = here_step (same_invocation w x) x w xs h refl ∙ ap (λ (b : Bool). listed (x ∷ xs) w && not b) (same_both w x)

later_step : (b c l m : Bool) → (b ≡ true → c ≡ false) → m ≡ (l && not c) → (b || m) ≡ ((b || l) && not c)
later_step true c l m f e = rw (f refl) refl
later_step false c l m f e = e

left_step : (b : Bool) (p : Invocation → Bool) (x v w : Invocation) (xs : List Invocation) → p x ≡ b → AllByRecursion (Other x) xs → (find p xs ≡ Some v → listed (remove_key p xs) w ≡ (listed xs w && not (same_invocation v w))) → cond b (Some x) (find p xs) ≡ Some v → listed (cond b xs (x ∷ remove_key p xs)) w ≡ (listed (x ∷ xs) w && not (same_invocation v w))
left_step true p x v w xs e h f k = let one : x ≡ v = cc in subst (λ (u : Invocation). listed xs w ≡ (listed (x ∷ xs) w && not (same_invocation u w))) one (here x w xs h)
left_step false p x v w xs e h f k = later_step (same_invocation w x) (same_invocation v w) (listed xs w) (listed (remove_key p xs) w) apart (f k)
  where
    other : same_invocation v x ≡ false
    other = same_both v x ∙ each_listed (Other x) xs v h (found_listed p xs v k)

    apart : same_invocation w x ≡ true → same_invocation v w ≡ false
    apart s = subst (λ (u : Invocation). same_invocation v u ≡ false) (sym (same_true w x s)) other

left_from : (p : Invocation → Bool) (vs : List Invocation) (v w : Invocation) → Chain Other vs → find p vs ≡ Some v → listed (remove_key p vs) w ≡ (listed vs w && not (same_invocation v w))
left_from p [] v w h k = cc
left_from p (x ∷ xs) v w h k = left_step (p x) p x v w xs refl h.0 (left_from p xs v w h.1) k

pub move_exact : MoveExact
move_exact = record {
  was = λ test worker v old new m. found_listed test old.listed v m.first;
  once = λ test worker v old new m h. subst Once (sym m.listed) (pairs_from_chain Other (remove_key test old.listed) (chain_left test old.listed (chain_from_pairs Other old.listed h)));
  left = λ test worker v w old new m h. ap (λ (l : List Invocation). listed l w) m.listed ∙ left_from test old.listed v w (chain_from_pairs Other old.listed h) m.first;
}

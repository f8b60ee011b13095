-- A list that is sorted and keeps ties in their order is determined by what it was.
use Rattle.std.proofs.Common.{◌≡◌, Bool, true, false, cond, List, [], ◌∷◌, filter, refl, sym, ap, ap₂, subst, ◌∙◌, inl, inr, arith}
use Rattle.std.specs.Cmp.{IsStrictWeakOrder}
use Rattle.std.specs.List.{AllByRecursion}
use Rattle.std.specs.List.Sorted.{ties, IsSortedBy}
use Rattle.std.proofs.lemmas.Bool.{cases_Bool, false≢true}
use Rattle.std.proofs.lemmas.List.Sorted.{sorted_far}
use Rattle.bc_mean.proofs.Lists.{Chain, chain_from_pairs}

-- x may stand before y
abbrev pub MayPrecede : {X : Type 0} → (X → X → Bool) → X → X → Type 0
MayPrecede lt x y = lt y x ≡ false

pub sorted_chain : {X : Type 0} (lt : X → X → Bool) → IsStrictWeakOrder lt → (xs : List X) → IsSortedBy lt xs → Chain (MayPrecede lt) xs
sorted_chain lt o xs h = chain_from_pairs (MayPrecede lt) xs (λ i j d a b. sorted_far lt o xs h i j d (omega arith) b)

not_below_itself : {X : Type 0} (lt : X → X → Bool) → IsStrictWeakOrder lt → (x : X) → lt x x ≡ false
not_below_itself lt o x = elim (cases_Bool (lt x x)) [ inl e ↦ o.one_way x x e | inr e ↦ e ]

ties_itself : {X : Type 0} (lt : X → X → Bool) → IsStrictWeakOrder lt → (x : X) → ties lt x x ≡ true
ties_itself lt o x = let e : lt x x ≡ false = not_below_itself lt o x in rw e refl

-- what holds of each holds of the first that passes
first_step : {X : Type 0} (P : X → Type 0) (b : Bool) (x y : X) (l r : List X) → P x → (l ≡ y ∷ r → P y) → cond b (x ∷ l) l ≡ y ∷ r → P y
first_step P true x y l r h f e = let one : x ≡ y = cc in subst P one h
first_step P false x y l r h f e = f e

first_of_each : {X : Type 0} (P : X → Type 0) (p : X → Bool) (xs : List X) (y : X) (r : List X) → AllByRecursion P xs → filter p xs ≡ y ∷ r → P y
first_of_each P p [] y r h e = cc
first_of_each P p (x ∷ xs) y r h e = first_step P (p x) x y (filter p xs) r h.0 (first_of_each P p xs y r h.1) e

pub tail_step : {X : Type 0} (b c : Bool) (y z : X) (l m : List X) → b ≡ c → cond b (y ∷ l) l ≡ cond c (z ∷ m) m → l ≡ m
tail_step true true y z l m e h = cc
tail_step true false y z l m e h = cc
tail_step false true y z l m e h = cc
tail_step false false y z l m e h = h

not_tied : {X : Type 0} (lt : X → X → Bool) (x y : X) → lt x y ≡ false → lt y x ≡ false → ties lt x y ≡ true
not_tied lt x y h k = rw (h, k) refl

head_step : {X : Type 0} (lt : X → X → Bool) (b c : Bool) (y z : X) (ys zs : List X) → ties lt y z ≡ b → ties lt z y ≡ c → AllByRecursion (MayPrecede lt y) ys → AllByRecursion (MayPrecede lt z) zs → y ∷ filter (ties lt y) ys ≡ cond b (z ∷ filter (ties lt y) zs) (filter (ties lt y) zs) → cond c (y ∷ filter (ties lt z) ys) (filter (ties lt z) ys) ≡ z ∷ filter (ties lt z) zs → y ≡ z
head_step lt true c y z ys zs e f hy hz h k = cc
head_step lt false true y z ys zs e f hy hz h k = cc
head_step lt false false y z ys zs e f hy hz h k =
    let a : lt y z ≡ false = first_of_each (MayPrecede lt z) (ties lt y) zs y (filter (ties lt y) ys) hz (sym h) in
    let b : lt z y ≡ false = first_of_each (MayPrecede lt y) (ties lt z) ys z (filter (ties lt z) zs) hy k in
    absurd (false≢true (sym e ∙ not_tied lt y z a b))

own_first : {X : Type 0} (lt : X → X → Bool) → IsStrictWeakOrder lt → (y : X) (ys : List X) → filter (ties lt y) (y ∷ ys) ≡ y ∷ filter (ties lt y) ys
own_first {X = X} lt o y ys = ap (λ (b : Bool). cond b (y ∷ filter (ties lt y) ys) (filter (ties lt y) ys)) (ties_itself lt o y)

same_head : {X : Type 0} (lt : X → X → Bool) → IsStrictWeakOrder lt → (y z : X) (ys zs : List X) → AllByRecursion (MayPrecede lt y) ys → AllByRecursion (MayPrecede lt z) zs → ((x : X) → filter (ties lt x) (y ∷ ys) ≡ filter (ties lt x) (z ∷ zs)) → y ≡ z
same_head lt o y z ys zs hy hz h =
    head_step lt (ties lt y z) (ties lt z y) y z ys zs refl refl hy hz (sym (own_first lt o y ys) ∙ h y) (h z ∙ own_first lt o z zs)

nothing : {X : Type 0} (lt : X → X → Bool) → IsStrictWeakOrder lt → (y : X) (ys : List X) → [] ≡ filter (ties lt y) (y ∷ ys) → ⊥
nothing lt o y ys h = let e = own_first lt o y ys in cc

pub one_sorted : {X : Type 0} (lt : X → X → Bool) → IsStrictWeakOrder lt → (ys zs : List X) → Chain (MayPrecede lt) ys → Chain (MayPrecede lt) zs → ((x : X) → filter (ties lt x) ys ≡ filter (ties lt x) zs) → ys ≡ zs
one_sorted lt o [] [] p q h = refl
one_sorted lt o [] (z ∷ zs) p q h = absurd (nothing lt o z zs (h z))
one_sorted lt o (y ∷ ys) [] p q h = absurd (nothing lt o y ys (sym (h y)))
one_sorted {X = X} lt o (y ∷ ys) (z ∷ zs) p q h =
    let e : y ≡ z = same_head lt o y z ys zs p.0 q.0 h in
    ap₂ (λ (a : X) (l : List X). a ∷ l) e (one_sorted lt o ys zs p.1 q.1 (λ x. tail_step (ties lt x y) (ties lt x z) y z (filter (ties lt x) ys) (filter (ties lt x) zs) (ap (ties lt x) e) (h x)))

-- Lists by recursion: what holds of each pair, members, and the lists that `flat_map`, `map` and ranges make.
use Rattle.std.proofs.Common.{◌≡◌, ℕ, zero, suc, ◌+◌, ◌<◌, ◌≤◌, ◌⊎◌, inl, inr, List, [], ◌∷◌, ◌++◌, map, sym, ap, subst, arith}
use Rattle.std.proofs.lemmas.Bool.{cases_eq}
use Rattle.std.proofs.lemmas.List.Elements.{All-from_recursion, recursion_from_All}
use Rattle.std.proofs.lemmas.List.Kept.{AllPairs-cons}
use Rattle.std.specs.List.{AllByRecursion, range_with_len, flat_map}
use Rattle.std.specs.Prelude.{AllPairs}

-- each precedes all later ones
abbrev pub Chain : {X : Type 0} → (X → X → Type 0) → List X → Type 0
Chain R [] = Unit {0}
Chain R (x ∷ xs) = AllByRecursion (R x) xs × Chain R xs

pub pairs_from_chain : {X : Type 0} (R : X → X → Type 0) (xs : List X) → Chain R xs → AllPairs R xs
pairs_from_chain R [] h = λ i j d a b. absurd (omega arith)
pairs_from_chain R (x ∷ xs) h = AllPairs-cons R x xs (All-from_recursion (R x) xs h.0) (pairs_from_chain R xs h.1)

pub chain_from_pairs : {X : Type 0} (R : X → X → Type 0) (xs : List X) → AllPairs R xs → Chain R xs
chain_from_pairs R [] h = tt
chain_from_pairs R (x ∷ xs) h = (
  recursion_from_All (R x) xs (λ k d b. h zero (suc k) d (omega arith) (omega arith)),
  chain_from_pairs R xs (λ i j d a b. h (suc i) (suc j) d (omega arith) (omega arith)),
)

pub each_append : {X : Type 0} (P : X → Type 0) (xs ys : List X) → AllByRecursion P xs → AllByRecursion P ys → AllByRecursion P (xs ++ ys)
each_append P [] ys h k = k
each_append P (x ∷ xs) ys h k = (h.0, each_append P xs ys h.1 k)

pub each_map : {X Y : Type 0} (P : Y → Type 0) (g : X → Y) → ((x : X) → P (g x)) → (xs : List X) → AllByRecursion P (map g xs)
each_map P g h [] = tt
each_map P g h (x ∷ xs) = (h x, each_map P g h xs)

pub each_flat_map : {X Y : Type 0} (P : Y → Type 0) (f : X → List Y) → ((x : X) → AllByRecursion P (f x)) → (xs : List X) → AllByRecursion P (flat_map f xs)
each_flat_map P f h [] = tt
each_flat_map P f h (x ∷ xs) = each_append P (f x) (flat_map f xs) (h x) (each_flat_map P f h xs)

pub each_weaker : {X : Type 0} (P Q : X → Type 0) → ((x : X) → P x → Q x) → (xs : List X) → AllByRecursion P xs → AllByRecursion Q xs
each_weaker P Q f [] h = tt
each_weaker P Q f (x ∷ xs) h = (f x h.0, each_weaker P Q f xs h.1)

-- each of xs stands in the relation to each of ys
abbrev pub Across : {X : Type 0} → (X → X → Type 0) → List X → List X → Type 0
Across R xs ys = AllByRecursion (λ x. AllByRecursion (R x) ys) xs

pub across : {X : Type 0} (R : X → X → Type 0) (A B : X → Type 0) → ((x y : X) → A x → B y → R x y) → (xs ys : List X) → AllByRecursion A xs → AllByRecursion B ys → Across R xs ys
across R A B f [] ys a b = tt
across R A B f (x ∷ xs) ys a b = (each_weaker B (R x) (λ y h. f x y a.0 h) ys b, across R A B f xs ys a.1 b)

across_nothing : {X : Type 0} (R : X → X → Type 0) (xs : List X) → Across R xs []
across_nothing R [] = tt
across_nothing R (x ∷ xs) = (tt, across_nothing R xs)

across_append : {X : Type 0} (R : X → X → Type 0) (xs ys zs : List X) → Across R xs ys → Across R xs zs → Across R xs (ys ++ zs)
across_append R [] ys zs h k = tt
across_append R (x ∷ xs) ys zs h k = (each_append (R x) ys zs h.0 k.0, across_append R xs ys zs h.1 k.1)

pub chain_append : {X : Type 0} (R : X → X → Type 0) (xs ys : List X) → Chain R xs → Chain R ys → Across R xs ys → Chain R (xs ++ ys)
chain_append R [] ys h k a = k
chain_append R (x ∷ xs) ys h k a = (each_append (R x) xs ys h.0 a.0, chain_append R xs ys h.1 k a.1)

pub chain_map : {X Y : Type 0} (Q : X → X → Type 0) (R : Y → Y → Type 0) (g : X → Y) → ((x y : X) → Q x y → R (g x) (g y)) → (xs : List X) → Chain Q xs → Chain R (map g xs)
chain_map Q R g f [] h = tt
chain_map {X = X} Q R g f (x ∷ xs) h = (heads xs h.0, chain_map Q R g f xs h.1)
  where
    heads : (ys : List X) → AllByRecursion (Q x) ys → AllByRecursion (R (g x)) (map g ys)
    heads [] a = tt
    heads (y ∷ ys) a = (f x y a.0, heads ys a.1)

-- The lists f x stand in order, and what tells one of f x from one of f y orders the two.
module _ {X Y : Type 0} (Q : X → X → Type 0) (R : Y → Y → Type 0) (f : X → List Y) (A : X → Y → Type 0) (own : (x : X) → AllByRecursion (A x) (f x)) (apart : (x y : X) (a b : Y) → Q x y → A x a → A y b → R a b) where
  across_later : (x : X) (xs : List X) → AllByRecursion (Q x) xs → Across R (f x) (flat_map f xs)
  across_later x [] h = across_nothing R (f x)
  across_later x (y ∷ ys) h =
      across_append R (f x) (f y) (flat_map f ys) (across R (A x) (A y) (λ a b p q. apart x y a b h.0 p q) (f x) (f y) (own x) (own y)) (across_later x ys h.1)

  pub chain_flat_map : ((x : X) → Chain R (f x)) → (xs : List X) → Chain Q xs → Chain R (flat_map f xs)
  chain_flat_map c [] h = tt
  chain_flat_map c (x ∷ xs) h = chain_append R (f x) (flat_map f xs) (c x) (chain_flat_map c xs h.1) (across_later x xs h.0)

range_above : (b a n : ℕ) → b < a → AllByRecursion (λ y. b < y) (range_with_len a n)
range_above b a zero h = tt
range_above b a (suc n) h = (h, range_above b (a + 1) n (omega arith))

pub chain_range : (a n : ℕ) → Chain (λ x y. x < y) (range_with_len a n)
chain_range a zero = tt
chain_range a (suc n) = (range_above a (a + 1) n (omega arith), chain_range (a + 1) n)

-- x is one of them
abbrev pub In : {X : Type 0} → X → List X → Type 0
In x [] = ⊥
In x (y ∷ ys) = (y ≡ x) ⊎ In x ys

pub in_left : {X : Type 0} (x : X) (xs ys : List X) → In x xs → In x (xs ++ ys)
in_left x [] ys h = absurd h
in_left x (z ∷ zs) ys h = elim h [ inl e ↦ inl e | inr e ↦ inr (in_left x zs ys e) ]

pub in_right : {X : Type 0} (x : X) (xs ys : List X) → In x ys → In x (xs ++ ys)
in_right x [] ys h = h
in_right x (z ∷ zs) ys h = inr (in_right x zs ys h)

pub in_map : {X Y : Type 0} (g : X → Y) (x : X) (xs : List X) → In x xs → In (g x) (map g xs)
in_map g x [] h = absurd h
in_map g x (y ∷ ys) h = elim h [ inl e ↦ inl (ap g e) | inr e ↦ inr (in_map g x ys e) ]

pub in_flat_map : {X Y : Type 0} (f : X → List Y) (x : X) (y : Y) (xs : List X) → In x xs → In y (f x) → In y (flat_map f xs)
in_flat_map f x y [] h k = absurd h
in_flat_map {X = X} f x y (z ∷ zs) h k = elim h [
  | inl e ↦ in_left y (f z) (flat_map f zs) (subst (λ (w : X). In y (f w)) (sym e) k)
  | inr e ↦ in_right y (f z) (flat_map f zs) (in_flat_map f x y zs e k)
]

pub in_range : (a n x : ℕ) → a ≤ x → x < a + n → In x (range_with_len a n)
in_range a zero x low high = absurd (omega arith)
in_range a (suc n) x low high = elim (cases_eq a x) [
  | inl e ↦ inl e
  | inr d ↦ let ne : a ≡ x → ⊥ = d in inr (in_range (a + 1) n x (omega (arith, ne)) (omega arith))
]

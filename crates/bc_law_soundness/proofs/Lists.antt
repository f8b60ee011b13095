-- Elements of lists by their places.
use Rattle.std.proofs.Common.{◌≡◌, ◌⊎◌, inl, inr, ℕ, zero, suc, ◌<◌, List, [], ◌∷◌, ◌++◌, length, set, Some, All, get_or, slice_get, refl, ap, sym, subst, ◌∙◌, arith, length-append}
use Rattle.std.proofs.lemmas.Bool.{cases_lt}
use Rattle.std.proofs.lemmas.List.{get_or_append_left, get_or_push}
use Rattle.std.proofs.lemmas.List.Elements.{All-get_or}
use Rattle.std.proofs.lemmas.Option.{get_or_from_slice_get, slice_get-get_or, slice_get_within}

-- an element that is there
pub element_within : {A : Type 0} (xs : List A) (i : ℕ) → i < length xs → (y : A) × (slice_get xs i ≡ Some y)
element_within [] i within = absurd (omega arith)
element_within (x ∷ xs) i within = (get_or (x ∷ xs) i x, slice_get-get_or (x ∷ xs) i x within)

-- what holds of each element holds of one that is there
pub holds_at : {A : Type 0} (P : A → Type 0) (xs : List A) (i : ℕ) (x : A) → All P xs → slice_get xs i ≡ Some x → P x
holds_at P xs i x each at = subst P (get_or_from_slice_get xs i x x at) (All-get_or P xs i x (slice_get_within xs i x at) each)

-- An element of a list with one more is one of those before, or the last.
pub old_or_last :
    {A : Type 0} (xs : List A) (x : A) (i : ℕ) (y : A) → slice_get (xs ++ x ∷ []) i ≡ Some y
    → (slice_get xs i ≡ Some y) ⊎ ((i ≡ length xs) × (x ≡ y))
old_or_last xs x i y at =
    let within = slice_get_within (xs ++ x ∷ []) i y at in
    let size = length-append xs (x ∷ []) in
    let here = get_or_from_slice_get (xs ++ x ∷ []) i y y at in
    elim (cases_lt i (length xs)) [
      | inl before ↦ inl (slice_get-get_or xs i y before ∙ ap Some (sym (get_or_append_left xs (x ∷ []) y i before) ∙ here))
      | inr behind ↦
          let last : length xs ≡ i = omega arith in
          inr (sym last, sym (get_or_push xs x y i last) ∙ here)
    ]

-- an element that is there stays in front of others
pub stays : {A : Type 0} (xs ys : List A) (i : ℕ) (y : A) → slice_get xs i ≡ Some y → slice_get (xs ++ ys) i ≡ Some y
stays [] ys i y at = cc
stays (x ∷ xs) ys zero y at = at
stays (x ∷ xs) ys (suc i) y at = stays xs ys i y at

-- the element behind all those of a list
pub last_at : {A : Type 0} (xs : List A) (x : A) → slice_get (xs ++ x ∷ []) (length xs) ≡ Some x
last_at [] x = refl
last_at (y ∷ xs) x = last_at xs x

pub set_same : {A : Type 0} (xs : List A) (i : ℕ) (x y : A) → slice_get xs i ≡ Some x → slice_get (set xs i y) i ≡ Some y
set_same [] i x y at = cc
set_same (z ∷ xs) zero x y at = refl
set_same (z ∷ xs) (suc i) x y at = set_same xs i x y at

pub set_other : {A : Type 0} (xs : List A) (i j : ℕ) (y : A) → (i ≡ j → ⊥) → slice_get (set xs i y) j ≡ slice_get xs j
set_other [] i j y h = refl
set_other (z ∷ xs) zero zero y h = absurd (h refl)
set_other (z ∷ xs) zero (suc j) y h = refl
set_other (z ∷ xs) (suc i) zero y h = refl
set_other (z ∷ xs) (suc i) (suc j) y h = set_other xs i j y (λ e. h (ap (λ n. suc n) e))

-- An element of a list with one set is that one, or another of those before.
pub set_or_other :
    {A : Type 0} (xs : List A) (i j : ℕ) (y z : A) → slice_get (set xs i y) j ≡ Some z
    → ((i ≡ j) × (y ≡ z)) ⊎ ((i ≡ j → ⊥) × (slice_get xs j ≡ Some z))
set_or_other [] i j y z at = cc
set_or_other (x ∷ xs) zero zero y z at = inl (refl, cc)
set_or_other (x ∷ xs) zero (suc j) y z at = inr (λ e. cc, at)
set_or_other (x ∷ xs) (suc i) zero y z at = inr (λ e. cc, at)
set_or_other (x ∷ xs) (suc i) (suc j) y z at = elim (set_or_other xs i j y z at) [
  | inl e ↦ inl (ap (λ n. suc n) e.0, e.1)
  | inr o ↦ inr (λ e. o.0 (omega arith), o.1)
]

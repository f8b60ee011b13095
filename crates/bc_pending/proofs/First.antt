-- The first element that passes a test, by its place.
use Rattle.std.proofs.Common.{◌≡◌, ℕ, zero, suc, ◌+◌, ◌<◌, ◌≤◌, Bool, true, false, not, cond, List, [], ◌∷◌, length, refl, sym, ap, subst, ◌∙◌, Option, Some, None, slice_get, get_or, arith}
use Rattle.std.specs.Prelude.{nat_lt}
use Rattle.std.specs.List.{list_any, find, position, position_or_len, remove}
use Rattle.std.specs.Set.{remove_key}
use Rattle.std.proofs.lemmas.List.Folds.{find_at}

at_front : {X : Type 0} (x : X) (xs ys : List X) (n m : ℕ) → m ≡ suc n → remove xs n ≡ ys → remove (x ∷ xs) m ≡ x ∷ ys
at_front {X = X} x xs ys n m e h = rw e (ap (λ (l : List X). x ∷ l) h)

first_step : {X : Type 0} (b : Bool) (x : X) (xs ys : List X) (n : ℕ) → remove xs n ≡ ys → remove (x ∷ xs) (cond (not b) (1 + n) 0) ≡ cond b xs (x ∷ ys)
first_step true x xs ys n h = grind arith
first_step false x xs ys n h = at_front x xs ys n (1 + n) (omega arith) h

pub remove_first : {X : Type 0} (p : X → Bool) (xs : List X) → remove xs (position_or_len p xs) ≡ remove_key p xs
remove_first p [] = refl
remove_first p (x ∷ xs) = first_step (p x) x xs (remove_key p xs) (position_or_len p xs) (remove_first p xs)

pub none_first : {X : Type 0} (p : X → Bool) (xs : List X) → length xs ≤ position_or_len p xs → list_any p xs ≡ false
none_first p [] h = refl
none_first p (x ∷ xs) h = grind (arith, none_first p xs)

pub some_first : {X : Type 0} (p : X → Bool) (xs : List X) → position_or_len p xs < length xs → list_any p xs ≡ true
some_first p [] h = grind arith
some_first p (x ∷ xs) h = grind (arith, some_first p xs)

-- the place that `position` gives, as a test of two numbers
place_cases : (n k i : ℕ) → cond (nat_lt n k) (Some n) None ≡ Some i → (n ≡ i) × (n < k)
place_cases n k i h = grind arith

no_place : (n k : ℕ) → ◌≡◌ {A = Option ℕ} (cond (nat_lt n k) (Some n) None) None → k ≤ n
no_place n k h = grind arith

pub position_none : {X : Type 0} (p : X → Bool) (xs : List X) → position p xs ≡ None → list_any p xs ≡ false
position_none p xs h = none_first p xs (no_place (position_or_len p xs) (length xs) h)

pub position_any : {X : Type 0} (p : X → Bool) (xs : List X) (i : ℕ) → position p xs ≡ Some i → list_any p xs ≡ true
position_any p xs i h = some_first p xs (place_cases (position_or_len p xs) (length xs) i h).1

pub position_within : {X : Type 0} (p : X → Bool) (xs : List X) (i : ℕ) → position p xs ≡ Some i → i < length xs
position_within p xs i h = let e = place_cases (position_or_len p xs) (length xs) i h in subst (λ (n : ℕ). n < length xs) e.0 e.1

pub position_rest : {X : Type 0} (p : X → Bool) (xs : List X) (i : ℕ) → position p xs ≡ Some i → remove xs i ≡ remove_key p xs
position_rest {X = X} p xs i h =
    let e = place_cases (position_or_len p xs) (length xs) i h in
    ap (λ (n : ℕ). remove xs n) (sym e.0) ∙ remove_first p xs

pub at_place : {X : Type 0} (xs : List X) (i : ℕ) (d : X) → i < length xs → slice_get xs i ≡ Some (get_or xs i d)
at_place [] i d h = absurd (omega arith)
at_place (x ∷ xs) zero d h = refl
at_place (x ∷ xs) (suc i) d h = at_place xs i d (omega arith)

pub position_found : {X : Type 0} (p : X → Bool) (xs : List X) (i : ℕ) → position p xs ≡ Some i → find p xs ≡ slice_get xs i
position_found {X = X} p xs i h =
    find_at p xs ∙ ap (λ (n : ℕ). slice_get xs n) (place_cases (position_or_len p xs) (length xs) i h).0

pub found_passes : {X : Type 0} (p : X → Bool) (xs : List X) (x : X) → find p xs ≡ Some x → p x ≡ true
found_passes p [] x h = cc
found_passes p (y ∷ xs) x h = grind (arith, found_passes p xs x)

-- Ascending numbers, with one put in or taken out.
use Rattle.std.proofs.Common.{◌≡◌, ℕ, ◌<◌, ◌≤◌, inl, inr, true, false, not, ◌&&◌, ◌||◌, ◌==◌, List, length, get_or, ap, ◌∙◌, subst, arith, eqb-true, eq-eqb}
use Rattle.std.specs.List.{insert, remove, Any}
use Rattle.std.proofs.lemmas.Bool.{false_from_ne_true, cases_lt, cases_eq}
use Rattle.std.proofs.lemmas.List.{get_or_default}
use Rattle.std.proofs.lemmas.List.Folds.{list_any_at, Any-from_list_any}
use Rattle.bc_params_sets.specs.Members.{has, IsRising}
use Rattle.bc_params_sets.proofs.Lists.{any-insert, any-remove, all_pairs_insert, or_there, and_not, Lone}

abbrev pub Found : List ℕ → ℕ → ℕ → Type 0
Found xs x i = (i < length xs) × (get_or xs i 0 ≡ x)

abbrev pub Missing : List ℕ → ℕ → ℕ → Type 0
Missing xs x i = (i ≤ length xs) × ((k : ℕ) → k < i → get_or xs k 0 < x) × ((k : ℕ) → i ≤ k → k < length xs → x < get_or xs k 0)

pub never_falls : (xs : List ℕ) → IsRising xs → (i j : ℕ) → i ≤ j → j < length xs → get_or xs i 0 ≤ get_or xs j 0
never_falls xs up i j h l = elim (cases_eq i j) [
  | inl e ↦ rw e (omega arith)
  | inr ne ↦ let p : get_or xs i 0 < get_or xs j 0 = up i j 0 (omega arith) l in omega arith
]

pub has_found : (xs : List ℕ) (x i : ℕ) → Found xs x i → has xs x ≡ true
has_found xs x i f = list_any_at (λ y. y == x) xs i 0 f.0 (eq-eqb (get_or xs i 0) x f.1)

pub has_none : (xs : List ℕ) (x i : ℕ) → Missing xs x i → has xs x ≡ false
has_none xs x i f = false_from_ne_true (has xs x) (λ s.
    let w : Any (λ y. (y == x) ≡ true) xs = Any-from_list_any (λ y. y == x) xs s in
    let e : get_or xs w.0 0 ≡ x = get_or_default xs w.0 0 w.1 w.2 ∙ (w.3 ∙ eqb-true w.1 x w.4) in
    elim (cases_lt w.0 i) [
      | inl p ↦ let q : get_or xs w.0 0 < x = f.1 w.0 p in omega arith
      | inr p ↦ let q : x < get_or xs w.0 0 = f.2 w.0 p w.2 in omega arith
    ])

pub rising_put : (xs : List ℕ) (x i : ℕ) → IsRising xs → Missing xs x i → IsRising (insert xs i x)
rising_put xs x i up f = all_pairs_insert (λ y z. y < z) xs i x f.0 up
    (λ k d h. subst (λ (n : ℕ). n < x) (get_or_default xs k 0 d (omega arith)) (f.1 k h))
    (λ k d h l. subst (λ (n : ℕ). x < n) (get_or_default xs k 0 d l) (f.2 k h l))

pub has_put : (xs : List ℕ) (x i y : ℕ) → has (insert xs i x) y ≡ (has xs y || (x == y))
has_put xs x i y = any-insert (λ z. z == y) xs i x

pub has_there : (xs : List ℕ) (x i y : ℕ) → Found xs x i → has xs y ≡ (has xs y || (x == y))
has_there xs x i y f = or_there (has xs y) (x == y) (λ h. has_found xs y i (f.0, f.1 ∙ eqb-true x y h))

lone : (xs : List ℕ) (y : ℕ) → IsRising xs → Lone (λ z. z == y) xs
lone xs y up i j d h l s t =
    let a : get_or xs i d ≡ y = eqb-true (get_or xs i d) y s in
    let b : get_or xs j d ≡ y = eqb-true (get_or xs j d) y t in
    let c : get_or xs i d < get_or xs j d = up i j d h l in
    omega arith

pub has_out : (xs : List ℕ) (x i y : ℕ) → IsRising xs → Found xs x i → has (remove xs i) y ≡ (has xs y && not (x == y))
has_out xs x i y up f = any-remove (λ z. z == y) xs i 0 f.0 (lone xs y up) ∙ ap (λ n. has xs y && not (n == y)) f.1

pub has_gone : (xs : List ℕ) (x i y : ℕ) → Missing xs x i → has xs y ≡ (has xs y && not (x == y))
has_gone xs x i y f = and_not (has xs y) (x == y) (λ s. subst (λ (n : ℕ). has xs n ≡ false) (eqb-true x y s) (has_none xs x i f))

-- Lists of which each element is changed in its place.
use Rattle.std.proofs.Common.{◌≡◌, ◌≢◌, ℕ, ◌+◌, ◌<◌, ◌≤◌, inl, inr, List, length, get_or, set, take, refl, sym, ap, ◌∙◌, subst, arith}
use Rattle.std.proofs.lemmas.Bool.{cases_eq, cases_lt}
use Rattle.std.proofs.lemmas.List.{get_or_default, get_or-set_same, get_or-set_other, length-set}
use Rattle.std.specs.List.{sum_by}
use Rattle.std.proofs.lemmas.List.Sums.{sum_by_more}
use Rattle.bc_params.specs.Places.{Each, Front}

pub front_none : {A : Type 0} (R : A → A → Type 0) (xs : List A) → Front R 0 xs xs
front_none R xs = record { size = refl; at = λ k d h. absurd (omega arith); rest = λ k d h. refl }

-- what an index reads is still the element of the old list
pub front_read : {A : Type 0} (R : A → A → Type 0) (n : ℕ) (xs ys : List A) (q d : A) → Front R n xs ys → n < length xs → q ≡ get_or ys n q → get_or xs n d ≡ q
front_read R n xs ys q d f h e = sym (f.rest n d (omega arith)) ∙ (get_or_default ys n d q (rw f.size h) ∙ sym e)

pub front_more : {A : Type 0} (R : A → A → Type 0) (n : ℕ) (xs ys : List A) (q z : A) → Front R n xs ys → n < length xs → q ≡ get_or ys n q → R q z → Front R (n + 1) xs (set ys n z)
front_more {A} R n xs ys q z f h e r = record {
  size = length-set ys n z ∙ f.size;
  at = λ k d l. elim (cases_eq k n) [
    | inl s ↦
        let there : n < length ys = rw f.size h in
        let new : get_or (set ys n z) k d ≡ z = ap (λ m. get_or (set ys n z) m d) s ∙ get_or-set_same ys n z d there in
        let old : get_or xs k d ≡ q = ap (λ m. get_or xs m d) s ∙ front_read R n xs ys q d f h e in
        subst (λ (x : A). R x (get_or (set ys n z) k d)) (sym old) (subst (λ (x : A). R q x) (sym new) r)
    | inr ne ↦ subst (λ (x : A). R (get_or xs k d) x) (sym (get_or-set_other ys n k z d ne)) (f.at k d (omega arith))
  ];
  rest = λ k d l. let ne : k ≢ n = omega arith in get_or-set_other ys n k z d ne ∙ f.rest k d (omega arith);
}

pub front_all : {A : Type 0} (R : A → A → Type 0) (n : ℕ) (xs ys : List A) → Front R n xs ys → length xs ≤ n → Each R xs ys
front_all R n xs ys f h = record { size = f.size; at = λ k d l. f.at k d (omega arith) }

-- the whole list, where those from n on are related to themselves
pub front_kept : {A : Type 0} (R : A → A → Type 0) (n : ℕ) (xs ys : List A) → ((x : A) → R x x) → Front R n xs ys → Each R xs ys
front_kept {A} R n xs ys self f = record {
  size = f.size;
  at = λ k d l. elim (cases_lt k n) [
    | inl h ↦ f.at k d h
    | inr h ↦ subst (λ (x : A). R (get_or xs k d) x) (sym (f.rest k d h)) (self (get_or xs k d))
  ];
}

-- a step's cost goes into the sum
pub spent_more : {A : Type 0} (f : A → ℕ) (xs : List A) (i : ℕ) (q : A) (start before after : ℕ) → i < length xs → get_or xs i q ≡ q → after ≤ before + f q → before ≤ start + sum_by f (take i xs)
    → after ≤ start + sum_by f (take (i + 1) xs)
spent_more f xs i q start before after h e a b =
    let m : sum_by f (take (i + 1) xs) ≡ sum_by f (take i xs) + f (get_or xs i q) = sum_by_more f xs i q h in
    let n : f (get_or xs i q) ≡ f q = ap f e in
    omega arith

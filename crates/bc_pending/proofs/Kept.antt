-- One element more of a list that is filtered in place, with the count of those that passed another test.
use Rattle.std.proofs.Common.{◌≡◌, ℕ, ◌+◌, ◌<◌, Bool, true, false, cond, List, length, take, drop, get_or, set, count_by, refl, sym, ap, subst, ◌∙◌, add-zero, arith}
use Rattle.std.proofs.lemmas.List.{get_or-drop}
use Rattle.std.proofs.lemmas.List.Sums.{count_by_more_no, count_by_more_yes}
use Rattle.std.proofs.lemmas.List.Filters.{FiltersInPlace, FiltersInPlace-more_set}

drop_head : {X : Type 0} (i : ℕ) (xs : List X) (x : X) → get_or (drop i xs) 0 x ≡ get_or xs i x
drop_head i xs x = get_or-drop i xs 0 x ∙ ap (λ (n : ℕ). get_or xs n x) (add-zero i)

pub same_element : {X : Type 0} (p : X → Bool) (xs ys : List X) (k i : ℕ) (x : X) → FiltersInPlace p xs ys k i → x ≡ get_or ys i x → get_or xs i x ≡ x
same_element {X = X} p xs ys k i x f h =
    sym (h ∙ sym (drop_head i ys x) ∙ ap (λ (l : List X). get_or l 0 x) f.rest ∙ drop_head i xs x)

counted : {X : Type 0} (q : X → Bool) (xs : List X) (i : ℕ) (x : X) (b : Bool) (from s t : ℕ) → i < length xs → get_or xs i x ≡ x → q x ≡ b → s ≡ from + count_by q (take i xs) → t ≡ cond b (s + 1) s → t ≡ from + count_by q (take (i + 1) xs)
counted {X = X} q xs i x true from s t h e k n m =
    let more : count_by q (take (i + 1) xs) ≡ count_by q (take i xs) + 1 = count_by_more_yes q xs i x h (ap q e ∙ k) in omega arith
counted {X = X} q xs i x false from s t h e k n m =
    let more : count_by q (take (i + 1) xs) ≡ count_by q (take i xs) = count_by_more_no q xs i x h (ap q e ∙ k) in omega arith

pub counted_more : {X : Type 0} (p q : X → Bool) (xs ys : List X) (k i : ℕ) (x : X) (from s t : ℕ) → FiltersInPlace p xs ys k i → i < length xs → x ≡ get_or ys i x → s ≡ from + count_by q (take i xs) → t ≡ cond (q x) (s + 1) s → t ≡ from + count_by q (take (i + 1) xs)
counted_more p q xs ys k i x from s t f h e n m = counted q xs i x (q x) from s t h (same_element p xs ys k i x f e) refl n m

-- the element at i is written to place k
pub moved_up : {X : Type 0} (p : X → Bool) (xs ys zs : List X) (k i : ℕ) (x : X) → FiltersInPlace p xs ys k i → i < length ys → p x ≡ true → x ≡ get_or ys i x → ((d : X) → zs ≡ set ys k (get_or ys i d)) → FiltersInPlace p xs zs (k + 1) (i + 1)
moved_up {X = X} p xs ys zs k i x f h e n m =
    subst (λ (l : List X). FiltersInPlace p xs l (k + 1) (i + 1)) (sym (m x ∙ ap (λ (y : X). set ys k y) (sym n))) (FiltersInPlace-more_set {p = p} f h e n)

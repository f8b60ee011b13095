-- What the next element adds to a list of parts.
use Rattle.std.proofs.Common.{◌≡◌, ℕ, zero, suc, ◌+◌, ◌<◌, ◌≤◌, List, [], ◌∷◌, ◌++◌, length, take, get_or, min, refl, sym, ap, ◌∙◌, arith, append_assoc}
use Rattle.std.proofs.lemmas.List.{take_more, length-take-le, append-nil}
use Rattle.std.proofs.lemmas.Grind.{flat_map-append}
use Rattle.std.specs.List.{flat_map, zip, enumerate_from}

take_next : {A : Type 0} → (xs : List A) (i : ℕ) (x : A) → i < length xs → x ≡ get_or xs i x → take (i + 1) xs ≡ take i xs ++ x ∷ []
take_next xs i x h e = take_more xs i x h ∙ ap (λ v. take i xs ++ v ∷ []) (sym e)

enumerated_push : {A : Type 0} → (n : ℕ) (xs : List A) (x : A) → enumerate_from n (xs ++ x ∷ []) ≡ enumerate_from n xs ++ (n + length xs, x) ∷ []
enumerated_push n [] x = let e : n ≡ n + 0 = omega arith in ap (λ k. (k, x) ∷ []) e
enumerated_push n (y ∷ ys) x =
    let e : n + 1 + length ys ≡ n + length (y ∷ ys) = omega arith in
    ap (λ l. (n, y) ∷ l) (enumerated_push (n + 1) ys x ∙ ap (λ k. enumerate_from (n + 1) ys ++ (k, x) ∷ []) e)

-- the line of the next element
pub numbered_next : {A B : Type 0} → (f : ℕ × A → List B) (xs : List A) (i : ℕ) (x : A) → i < length xs → x ≡ get_or xs i x → flat_map f (enumerate_from 0 (take (i + 1) xs)) ≡ flat_map f (enumerate_from 0 (take i xs)) ++ f (i, x)
numbered_next f xs i x h e =
    let long : 0 + length (take i xs) ≡ i = let t = length-take-le i xs (omega arith) in omega arith in
    ap (λ l. flat_map f (enumerate_from 0 l)) (take_next xs i x h e)
    ∙ ap (flat_map f) (enumerated_push 0 (take i xs) x ∙ ap (λ k. enumerate_from 0 (take i xs) ++ (k, x) ∷ []) long)
    ∙ flat_map-append f (enumerate_from 0 (take i xs)) ((i, x) ∷ [])
    ∙ ap (λ l. flat_map f (enumerate_from 0 (take i xs)) ++ l) (append-nil (f (i, x)))

zip_push : {A B : Type 0} → (xs : List A) (ys : List B) (x : A) (y : B) → length xs ≡ length ys → zip (xs ++ x ∷ []) (ys ++ y ∷ []) ≡ zip xs ys ++ (x, y) ∷ []
zip_push [] [] x y h = refl
zip_push [] (b ∷ ys) x y h = absurd (omega (arith, h))
zip_push (a ∷ xs) [] x y h = absurd (omega (arith, h))
zip_push (a ∷ xs) (b ∷ ys) x y h = ap (λ l. (a, b) ∷ l) (zip_push xs ys x y (omega (arith, h)))

-- the part of the next two elements
pub zipped_next : {A B C : Type 0} → (f : A × B → List C) (xs : List A) (ys : List B) (i : ℕ) (x : A) (y : B) → i < length xs → i < length ys → x ≡ get_or xs i x → y ≡ get_or ys i y → flat_map f (zip (take (i + 1) xs) (take (i + 1) ys)) ≡ flat_map f (zip (take i xs) (take i ys)) ++ f (x, y)
zipped_next f xs ys i x y hx hy ex ey =
    let same : length (take i xs) ≡ length (take i ys) = length-take-le i xs (omega arith) ∙ sym (length-take-le i ys (omega arith)) in
    ap (λ l. flat_map f (zip l (take (i + 1) ys))) (take_next xs i x hx ex)
    ∙ ap (λ l. flat_map f (zip (take i xs ++ x ∷ []) l)) (take_next ys i y hy ey)
    ∙ ap (flat_map f) (zip_push (take i xs) (take i ys) x y same)
    ∙ flat_map-append f (zip (take i xs) (take i ys)) ((x, y) ∷ [])
    ∙ ap (λ l. flat_map f (zip (take i xs) (take i ys)) ++ l) (append-nil (f (x, y)))

-- What is behind the end of the shorter list has no part.
pub zipped_all : {A B : Type 0} → (xs : List A) (ys : List B) (i : ℕ) → min (length xs) (length ys) ≤ i → zip (take i xs) (take i ys) ≡ zip xs ys
zipped_all [] ys zero h = refl
zipped_all [] ys (suc i) h = refl
zipped_all (x ∷ xs) [] zero h = refl
zipped_all (x ∷ xs) [] (suc i) h = refl
zipped_all (x ∷ xs) (y ∷ ys) zero h = absurd (omega (arith, h))
zipped_all (x ∷ xs) (y ∷ ys) (suc i) h = ap (λ l. (x, y) ∷ l) (zipped_all xs ys i (omega (arith, h)))

-- one more appended
pub then_one : {A : Type 0} → (start a b all first next : List A) → first ≡ start ++ a → next ≡ first ++ b → all ≡ a ++ b → next ≡ start ++ all
then_one start a b all first next e f h = f ∙ ap (λ t. t ++ b) e ∙ append_assoc start a b ∙ ap (λ t. start ++ t) (sym h)

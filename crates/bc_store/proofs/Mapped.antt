-- Lists whose elements are mapped in place, one after the other.
use Rattle.std.proofs.Common.{◌≡◌, ℕ, zero, suc, ◌+◌, ◌<◌, List, [], ◌∷◌, length, map, get_or, set, refl, sym, ap, subst, ◌∙◌, add-one}
use Rattle.std.specs.Prelude.{All}
use Rattle.std.proofs.lemmas.List.Elements.{All-get_or}

-- the first i elements are mapped, the others are as they were
abbrev pub mapped_to : {X : Type 0} → (X → X) → ℕ → List X → List X
mapped_to f i [] = []
mapped_to f zero (x ∷ xs) = x ∷ xs
mapped_to f (suc i) (x ∷ xs) = f x ∷ mapped_to f i xs

pub mapped_none : {X : Type 0} (f : X → X) (xs : List X) → mapped_to f 0 xs ≡ xs
mapped_none f [] = refl
mapped_none f (x ∷ xs) = refl

pub mapped_all : {X : Type 0} (f : X → X) (xs : List X) → mapped_to f (length xs) xs ≡ map f xs
mapped_all f [] = refl
mapped_all f (x ∷ xs) = ap (λ l. f x ∷ l) (mapped_all f xs)

pub mapped_length : {X : Type 0} (f : X → X) (i : ℕ) (xs : List X) → length (mapped_to f i xs) ≡ length xs
mapped_length f i [] = refl
mapped_length f zero (x ∷ xs) = refl
mapped_length f (suc i) (x ∷ xs) = ap suc (mapped_length f i xs)

mapped_at : {X : Type 0} (f : X → X) (i : ℕ) (xs : List X) (d : X) → get_or (mapped_to f i xs) i d ≡ get_or xs i d
mapped_at f i [] d = refl
mapped_at f zero (x ∷ xs) d = refl
mapped_at f (suc i) (x ∷ xs) d = mapped_at f i xs d

mapped_next : {X : Type 0} (f : X → X) (i : ℕ) (xs : List X) (d : X) → set (mapped_to f i xs) i (f (get_or xs i d)) ≡ mapped_to f (suc i) xs
mapped_next f i [] d = refl
mapped_next f zero (x ∷ xs) d = ap (λ l. f x ∷ l) (sym (mapped_none f xs))
mapped_next f (suc i) (x ∷ xs) d = ap (λ l. f x ∷ l) (mapped_next f i xs d)

-- the element in turn is as it was
mapped_item : {X : Type 0} (f : X → X) (xs ys : List X) (i : ℕ) (x : X) → ys ≡ mapped_to f i xs → x ≡ get_or ys i x → x ≡ get_or xs i x
mapped_item f xs ys i x e h = h ∙ ap (λ l. get_or l i x) e ∙ mapped_at f i xs x

-- and what holds of each holds of it
pub mapped_holds : {X : Type 0} (P : X → Type 0) (f : X → X) (xs ys : List X) (i : ℕ) (x : X) → All P xs → i < length xs → ys ≡ mapped_to f i xs → x ≡ get_or ys i x → P x
mapped_holds P f xs ys i x a within e h = subst P (sym (mapped_item f xs ys i x e h)) (All-get_or P xs i x within a)

-- one more is mapped
pub mapped_more : {X : Type 0} (f : X → X) (xs ys : List X) (i : ℕ) (x : X) → ys ≡ mapped_to f i xs → x ≡ get_or ys i x → set ys i (f x) ≡ mapped_to f (i + 1) xs
mapped_more f xs ys i x e h =
    ap (λ l. set l i (f x)) e
    ∙ ap (λ y. set (mapped_to f i xs) i (f y)) (mapped_item f xs ys i x e h)
    ∙ mapped_next f i xs x
    ∙ ap (λ n. mapped_to f n xs) (sym (add-one i))

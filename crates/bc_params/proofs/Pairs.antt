-- Lists whose elements are related in pairs.
use Rattle.std.proofs.Common.{ℕ, zero, suc, ◌<◌, List, [], ◌∷◌, length, get_or, refl, ap, arith}
use Rattle.std.specs.List.{All, AllZip}
use Rattle.bc_params.specs.Places.{Each}

pub zipped : {A : Type 0} (R : A → A → Type 0) (xs ys : List A) → Each R xs ys → AllZip R xs ys
zipped R [] [] e = tt
zipped R [] (y ∷ ys) e = absurd (omega (arith, e.size))
zipped R (x ∷ xs) [] e = absurd (omega (arith, e.size))
zipped R (x ∷ xs) (y ∷ ys) e = (e.at 0 x (omega arith), zipped R xs ys (record { size = omega (arith, e.size); at = λ k d h. e.at (suc k) d (omega arith) }))

pub each_cons : {A : Type 0} (R : A → A → Type 0) (x y : A) (xs ys : List A) → R x y → Each R xs ys → Each R (x ∷ xs) (y ∷ ys)
each_cons {A} R x y xs ys r e = record { size = ap suc e.size; at = at }
  where
    at : (k : ℕ) (d : A) → k < length (x ∷ xs) → R (get_or (x ∷ xs) k d) (get_or (y ∷ ys) k d)
    at zero d h = r
    at (suc k) d h = e.at k d (omega arith)

pub each_nil : {A : Type 0} (R : A → A → Type 0) → Each R [] []
each_nil R = record { size = refl; at = λ k d h. absurd (omega arith) }

pub all_tail : {A : Type 0} (P : A → Type 0) (x : A) (xs : List A) → All P (x ∷ xs) → All P xs
all_tail P x xs h k d l = h (suc k) d (omega arith)

pub all_head : {A : Type 0} (P : A → Type 0) (x : A) (xs : List A) → All P (x ∷ xs) → P x
all_head P x xs h = h 0 x (omega arith)

-- what holds of each element and is kept by the relation
pub all_through : {A : Type 0} (R : A → A → Type 0) (P Q : A → Type 0) → ((x y : A) → R x y → P x → Q y) → (xs ys : List A) → Each R xs ys → All P xs → All Q ys
all_through R P Q step xs ys e h k d l =
    let within : k < length xs = omega (arith, e.size) in
    step (get_or xs k d) (get_or ys k d) (e.at k d within) (h k d within)

-- Bodies of the same sizes.
use Rattle.std.proofs.Common.{◌≡◌, ℕ, zero, suc, ◌+◌, List, [], ◌∷◌, ◌++◌, length, map, refl, sym, ap, ◌∙◌, subst}
use Rattle.std.specs.Prelude.{slice_get, slice_set, Some}
use Rattle.std.specs.List.{AllByRecursion}
use Rattle.std.proofs.lemmas.List.{length-map}
use Rattle.std.proofs.lemmas.List.Sums.{sum_by-cons}
use Rattle.std.proofs.lemmas.Option.{same_Some}
use Rattle.bc_data.specs.declared.run.Body.{Body}
use Rattle.bc_data.specs.declared.run.Written.{Written}
use Rattle.bc_mean.specs.declared.plain.Plain.{Plain}
use Rattle.bc_mean.specs.Changes.{body_in, put_bodies, value_in}
use Rattle.bc_mean.specs.Store.{cells_in}
use Rattle.bc_law_room.specs.Sizes.{HasLike, IsLike}

pub like_itself : (a : Body) → IsLike a a
like_itself a = record { kind = refl; cells = refl }

pub like_then : (a b c : Body) → IsLike a b → IsLike b c → IsLike a c
like_then a b c h k = record { kind = k.kind ∙ h.kind; cells = k.cells ∙ h.cells }

pub like_back : (a b : Body) → IsLike a b → IsLike b a
like_back a b h = record { kind = sym h.kind; cells = sym h.cells }

-- one by one, and as many
abbrev pub AreAlike : List Body → List Body → Type 0
AreAlike [] [] = Unit {0}
AreAlike (x ∷ xs) (y ∷ ys) = IsLike x y × AreAlike xs ys
AreAlike [] (y ∷ ys) = ⊥
AreAlike (x ∷ xs) [] = ⊥

pub alike_itself : (xs : List Body) → AreAlike xs xs
alike_itself [] = tt
alike_itself (x ∷ xs) = (like_itself x, alike_itself xs)

pub alike_length : (xs ys : List Body) → AreAlike xs ys → length ys ≡ length xs
alike_length [] [] h = refl
alike_length (x ∷ xs) (y ∷ ys) h = ap suc (alike_length xs ys h.1)
alike_length [] (y ∷ ys) h = absurd h
alike_length (x ∷ xs) [] h = absurd h

pub alike_cells : (xs ys : List Body) → AreAlike xs ys → cells_in ys ≡ cells_in xs
alike_cells [] [] h = refl
alike_cells (x ∷ xs) (y ∷ ys) h =
    let e = alike_cells xs ys h.1 in
    let l = h.0.cells in
    sum_by-cons (λ (b : Body). length b.cells) y ys
    ∙ ap (λ (n : ℕ). n + cells_in ys) l
    ∙ ap (λ (n : ℕ). length x.cells + n) e
    ∙ sym (sum_by-cons (λ (b : Body). length b.cells) x xs)
alike_cells [] (y ∷ ys) h = absurd h
alike_cells (x ∷ xs) [] h = absurd h

pub alike_get : (xs ys zs : List Body) (id : ℕ) (a : Body) → AreAlike xs ys → slice_get xs id ≡ Some a → (b : Body) × (slice_get (ys ++ zs) id ≡ Some b) × IsLike a b
alike_get [] ys zs id a h e = absurd (cc)
alike_get (x ∷ xs) [] zs id a h e = absurd h
alike_get (x ∷ xs) (y ∷ ys) zs zero a h e = (y, refl, subst (λ (z : Body). IsLike z y) (same_Some x a e) h.0)
alike_get (x ∷ xs) (y ∷ ys) zs (suc id) a h e = alike_get xs ys zs id a h.1 e

alike_set : (xs ys : List Body) (id : ℕ) (a b : Body) → AreAlike xs ys → slice_get xs id ≡ Some a → IsLike a b → AreAlike xs (slice_set ys id b)
alike_set [] ys id a b h e l = absurd (cc)
alike_set (x ∷ xs) [] id a b h e l = absurd h
alike_set (x ∷ xs) (y ∷ ys) zero a b h e l = (subst (λ (z : Body). IsLike z b) (sym (same_Some x a e)) l, h.1)
alike_set (x ∷ xs) (y ∷ ys) (suc id) a b h e l = (h.0, alike_set xs ys id a b h.1 e l)

in_like : (S : Plain) (b : Body) → IsLike b (body_in S b)
in_like S b = record { kind = refl; cells = length-map b.cells (value_in S) }

-- changed bodies that are like their objects' take their places
pub put_alike : (S : Plain) (cs : List Written) (ys : List Body) → AllByRecursion (λ c. HasLike S c.id c.body) cs → AreAlike S.bodies ys → AreAlike S.bodies (put_bodies S cs ys)
put_alike S [] ys h k = k
put_alike S (c ∷ cs) ys h k =
    let l : IsLike h.0.0 (body_in S c.body) = like_then h.0.0 c.body (body_in S c.body) (like_back c.body h.0.0 h.0.2) (in_like S c.body) in
    put_alike S cs (slice_set ys c.id (body_in S c.body)) h.1 (alike_set S.bodies ys c.id h.0.0 (body_in S c.body) k h.0.1 l)

pub made_cells : (S : Plain) (bs : List Body) → cells_in (map (body_in S) bs) ≡ cells_in bs
made_cells S [] = refl
made_cells S (b ∷ bs) =
    sum_by-cons (λ (c : Body). length c.cells) (body_in S b) (map (body_in S) bs)
    ∙ ap (λ (n : ℕ). n + cells_in (map (body_in S) bs)) (length-map b.cells (value_in S))
    ∙ ap (λ (n : ℕ). length b.cells + n) (made_cells S bs)
    ∙ sym (sum_by-cons (λ (c : Body). length c.cells) b bs)

-- Lists that begin with others, and the first elements of lists.
use Rattle.std.proofs.Common.{◌≡◌, ℕ, zero, suc, ◌+◌, ◌<◌, ◌≤◌, true, ◌&&◌, ◌==◌, List, [], ◌∷◌, ◌++◌, length, take, drop, map, get_or, refl, sym, ap, ap₂, ◌∙◌, append-nil, arith}
use Rattle.std.specs.Prelude.{slice_get}
use Rattle.std.specs.List.{flat_map}
use Rattle.std.proofs.lemmas.Bool.{false≢true, and_parts, and_from, eq-eqb, eqb-true}
use Rattle.std.proofs.lemmas.List.{take_more, take-append-drop}
use Rattle.std.proofs.lemmas.Grind.{flat_map-append}
use Rattle.std.specs.Cmp.{nat_cmp_total, tied_itself}
use Rattle.std.specs.declared.cmp.Ordering.{Ordering}
use Rattle.std.specs.declared.cmp.Ordering.TheVariants.{Less}
use Rattle.std.specs.Ordering.{ordering_then, nat_cmp}
use Rattle.std.specs.Cmp.Lexicographic.{slice_cmp}
use Rattle.std.specs.Prelude.{nat_lt}
use Rattle.std.proofs.lemmas.Bool.{lt-ltb}
use Rattle.bc_mean.specs.Enabled.{is_some_and}
use Rattle.bc_params_search.specs.Search.{begins}

-- the first n of the first n and more
pub take_then : {X : Type 0} (n : ℕ) (xs ys : List X) → take n (take n xs ++ ys) ≡ take n (xs ++ ys)
take_then zero xs ys = refl
take_then (suc n) [] ys = refl
take_then {X = X} (suc n) (x ∷ xs) ys = ap (λ (l : List X). x ∷ l) (take_then n xs ys)

-- where there are n, more change nothing
pub take_full : {X : Type 0} (n : ℕ) (xs ys : List X) → n ≤ length (take n xs) → take n (xs ++ ys) ≡ take n xs
take_full zero xs ys h = refl
take_full (suc n) [] ys h = let no : suc n ≤ 0 = h in absurd (omega arith)
take_full {X = X} (suc n) (x ∷ xs) ys h = ap (λ (l : List X). x ∷ l) (take_full n xs ys (omega arith))

pub flat_map_more : {X Y : Type 0} (f : X → List Y) (xs : List X) (i : ℕ) (d : X) → i < length xs → flat_map f (take (i + 1) xs) ≡ flat_map f (take i xs) ++ f (get_or xs i d)
flat_map_more f xs i d h =
    ap (flat_map f) (take_more xs i d h)
    ∙ flat_map-append f (take i xs) (get_or xs i d ∷ [])
    ∙ ap (λ ys. flat_map f (take i xs) ++ ys) (append-nil (f (get_or xs i d)))

pub flat_map_rest : {X Y : Type 0} (f : X → List Y) (xs : List X) (i : ℕ) → flat_map f xs ≡ flat_map f (take i xs) ++ flat_map f (drop i xs)
flat_map_rest f xs i = ap (flat_map f) (sym (take-append-drop i xs)) ∙ flat_map-append f (take i xs) (drop i xs)

pub flat_map_map : {X Y Z : Type 0} (f : Y → List Z) (g : X → Y) (xs : List X) → flat_map f (map g xs) ≡ flat_map (λ x. f (g x)) xs
flat_map_map f g [] = refl
flat_map_map f g (x ∷ xs) = ap (λ ys. f (g x) ++ ys) (flat_map_map f g xs)

-- a list that begins with another
pub begins_itself : (xs : List ℕ) → begins xs xs ≡ true
begins_itself [] = refl
begins_itself (x ∷ xs) = and_from (x == x) (begins xs xs) (eq-eqb x x refl) (begins_itself xs)

pub begins_whole : (xs ys : List ℕ) → begins xs ys ≡ true → length xs ≡ length ys → ys ≡ xs
begins_whole [] [] h e = refl
begins_whole [] (y ∷ ys) h e = absurd (omega arith)
begins_whole (x ∷ xs) [] h e = absurd (false≢true h)
begins_whole (x ∷ xs) (y ∷ ys) h e =
    let q = and_parts (x == y) (begins xs ys) h in
    ap₂ (λ (a : ℕ) (l : List ℕ). a ∷ l) (sym (eqb-true x y q.0)) (begins_whole xs ys q.1 (omega arith))

-- it goes on by x
pub begins_more : (xs ys : List ℕ) (x : ℕ) → begins (xs ++ x ∷ []) ys ≡ (begins xs ys && is_some_and (slice_get ys (length xs)) (λ y. x == y))
begins_more [] [] x = refl
begins_more [] (y ∷ ys) x = grind arith
begins_more (a ∷ xs) [] x = refl
begins_more (a ∷ xs) (y ∷ ys) x = let h = begins_more xs ys x in grind (arith, h)

abbrev pub Below : List ℕ → List ℕ → Type 0
Below xs ys = slice_cmp nat_cmp xs ys ≡ Less

less : (x y : ℕ) → x < y → nat_cmp x y ≡ Less
less x y h = let e : nat_lt x y ≡ true = lt-ltb x y h in rw e refl

-- of two lists that begin alike, the one that goes on with less is less
pub below_first : (front : List ℕ) (x y : ℕ) (a b : List ℕ) → x < y → begins (front ++ x ∷ []) a ≡ true → begins (front ++ y ∷ []) b ≡ true → Below a b
below_first [] x y [] b h p q = absurd (false≢true p)
below_first [] x y (s ∷ a) [] h p q = absurd (false≢true q)
below_first [] x y (s ∷ a) (t ∷ b) h p q =
    let e : x ≡ s = eqb-true x s (and_parts (x == s) true p).0 in
    let f : y ≡ t = eqb-true y t (and_parts (y == t) true q).0 in
    ap (λ (o : Ordering). ordering_then o (slice_cmp nat_cmp a b)) (less s t (omega arith))
below_first (c ∷ front) x y [] b h p q = absurd (false≢true p)
below_first (c ∷ front) x y (s ∷ a) [] h p q = absurd (false≢true q)
below_first (c ∷ front) x y (s ∷ a) (t ∷ b) h p q =
    let u = and_parts (c == s) (begins (front ++ x ∷ []) a) p in
    let v = and_parts (c == t) (begins (front ++ y ∷ []) b) q in
    let e : c ≡ s = eqb-true c s u.0 in
    let f : c ≡ t = eqb-true c t v.0 in
    ap (λ (n : ℕ). ordering_then (nat_cmp s n) (slice_cmp nat_cmp a b)) (sym f ∙ e)
    ∙ ap (λ (o : Ordering). ordering_then o (slice_cmp nat_cmp a b)) (tied_itself nat_cmp_total s)
    ∙ below_first front x y a b h u.1 v.1

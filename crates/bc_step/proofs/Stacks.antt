-- A stack in its vector.
use Rattle.std.proofs.Common.{◌≡◌, ℕ, ◌+◌, ◌-◌, ◌<◌, ◌≤◌, Option, Some, None, List, [], ◌∷◌, ◌++◌, length, refl, sym, ◌∙◌, ap, arith, reverse, get_or, length-append}
use Rattle.std.specs.Prelude.{slice_set, IfSome, IfNone}
use Rattle.std.proofs.lemmas.List.{reverse-append, reverse-reverse, length-reverse, get_or-reverse}
use Rattle.std.proofs.Math.Seq.{set-append_seam}

-- the i-th value from the top
from_top : {A : Type 0} (xs : List A) (d : A) (i n : ℕ) → i < length xs → n + i + 1 ≡ length xs → get_or (reverse xs) i d ≡ get_or xs n d
from_top xs d i n within h = get_or-reverse xs i d within ∙ ap (λ k. get_or xs k d) (omega arith)

one_front : {A : Type 0} (r : List A) (d : A) → 1 ≤ length r → (rest : List A) × (r ≡ get_or r 0 d ∷ rest)
one_front [] d h = absurd (omega arith)
one_front (x ∷ rest) d h = (rest, refl)

two_front : {A : Type 0} (r : List A) (d : A) → 2 ≤ length r → (rest : List A) × (r ≡ get_or r 0 d ∷ get_or r 1 d ∷ rest)
two_front [] d h = absurd (omega arith)
two_front (x ∷ []) d h = absurd (omega arith)
two_front (x ∷ y ∷ rest) d h = (rest, refl)

three_front : {A : Type 0} (r : List A) (d : A) → 3 ≤ length r → (rest : List A) × (r ≡ get_or r 0 d ∷ get_or r 1 d ∷ get_or r 2 d ∷ rest)
three_front [] d h = absurd (omega arith)
three_front (x ∷ []) d h = absurd (omega arith)
three_front (x ∷ y ∷ []) d h = absurd (omega arith)
three_front (x ∷ y ∷ z ∷ rest) d h = (rest, refl)

pub top_is : {A : Type 0} (xs : List A) (d : A) → 1 ≤ length xs → (rest : List A) × (reverse xs ≡ get_or xs (length xs - 1) d ∷ rest)
top_is xs d h =
    let r = one_front (reverse xs) d (omega (arith, length-reverse xs)) in
    (r.0, r.1 ∙ ap (λ x. x ∷ r.0) (from_top xs d 0 (length xs - 1) (omega arith) (omega arith)))

pub two_are : {A : Type 0} (xs : List A) (d : A) → 2 ≤ length xs → (rest : List A) × (reverse xs ≡ get_or xs (length xs - 1) d ∷ get_or xs (length xs - 2) d ∷ rest)
two_are xs d h =
    let r = two_front (reverse xs) d (omega (arith, length-reverse xs)) in
    let a = from_top xs d 0 (length xs - 1) (omega arith) (omega arith) in
    let b = from_top xs d 1 (length xs - 2) (omega arith) (omega arith) in
    (r.0, r.1 ∙ ap (λ x. x ∷ get_or (reverse xs) 1 d ∷ r.0) a ∙ ap (λ y. get_or xs (length xs - 1) d ∷ y ∷ r.0) b)

pub three_are : {A : Type 0} (xs : List A) (d : A) → 3 ≤ length xs → (rest : List A) × (reverse xs ≡ get_or xs (length xs - 1) d ∷ get_or xs (length xs - 2) d ∷ get_or xs (length xs - 3) d ∷ rest)
three_are xs d h =
    let r = three_front (reverse xs) d (omega (arith, length-reverse xs)) in
    let a = from_top xs d 0 (length xs - 1) (omega arith) (omega arith) in
    let b = from_top xs d 1 (length xs - 2) (omega arith) (omega arith) in
    let e = from_top xs d 2 (length xs - 3) (omega arith) (omega arith) in (
      r.0,
      r.1
          ∙ ap (λ x. x ∷ get_or (reverse xs) 1 d ∷ get_or (reverse xs) 2 d ∷ r.0) a
          ∙ ap (λ y. get_or xs (length xs - 1) d ∷ y ∷ get_or (reverse xs) 2 d ∷ r.0) b
          ∙ ap (λ z. get_or xs (length xs - 1) d ∷ get_or xs (length xs - 2) d ∷ z ∷ r.0) e,
    )

-- a list whose turned one begins with this ends with it
pub turned : {A : Type 0} (xs : List A) (y : A) (rest : List A) → reverse xs ≡ y ∷ rest → xs ≡ reverse rest ++ y ∷ []
turned xs y rest e = sym (reverse-reverse xs) ∙ ap reverse e ∙ reverse-append (y ∷ []) rest

pub top_set : {A : Type 0} (xs : List A) (x y : A) (rest : List A) (n : ℕ) → n + 1 ≡ length xs → reverse xs ≡ y ∷ rest → reverse (slice_set xs n x) ≡ x ∷ rest
top_set xs x y rest n h e =
    let is = turned xs y rest e in
    let long : n ≡ length (reverse rest) = omega (arith, ap length is, length-append (reverse rest) (y ∷ [])) in
    ap (λ l. reverse (slice_set l n x)) is
    ∙ ap (λ k. reverse (slice_set (reverse rest ++ y ∷ []) k x)) long
    ∙ ap reverse (set-append_seam (reverse rest) y [] x)
    ∙ reverse-append (reverse rest) (x ∷ [])
    ∙ ap (λ l. x ∷ l) (reverse-reverse rest)

popped_at : {A : Type 0} (o : Option A) (old new : List A) → IfSome o (λ x. old ≡ x ∷ new) → IfNone o (old ≡ []) → (y : A) (rest : List A) → old ≡ y ∷ rest → new ≡ rest
popped_at None old new s n y rest e = absurd (cc)
popped_at (Some x) old new s n y rest e = cc

pub popped : {A : Type 0} (o : Option A) (old new : List A) → IfSome o (λ x. reverse old ≡ x ∷ reverse new) → IfNone o (reverse old ≡ []) → (y : A) (rest : List A) → reverse old ≡ y ∷ rest → reverse new ≡ rest
popped o old new s n y rest e = popped_at o (reverse old) (reverse new) s n y rest e

pub more_turned : {A : Type 0} (xs : List A) (y : A) → reverse (xs ++ y ∷ []) ≡ y ∷ reverse xs
more_turned xs y = reverse-append xs (y ∷ [])

pub none_turned : {A : Type 0} (xs : List A) → length xs ≡ 0 → reverse xs ≡ []
none_turned [] e = refl
none_turned (x ∷ xs) e = absurd (omega arith)

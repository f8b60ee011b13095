-- A space as the keys of a set.
use Rattle.std.proofs.Common.{◌≡◌, ℕ, suc, ◌+◌, Bool, true, false, ◌||◌, cond, not, List, [], ◌∷◌, ◌++◌, length, map, if◌then◌else◌, Some, None, is_some, position, refl, ap, sym, ◌∙◌, arith}
use Rattle.std.specs.Prelude.{nat_eq, nat_lt}
use Rattle.std.specs.List.{list_any, prefix_len, position_or_len}
use Rattle.std.specs.Cmp.Lexicographic.{pointwise}
use Rattle.std.specs.declared.vec.Vec.{Vec}
use Rattle.std.proofs.lemmas.Bool.{lt-ltb, ltb-true, ltb_from_iff}
use Rattle.std.proofs.lemmas.List.{length-map, map-append}
use Rattle.bc_types_rules.specs.Numbering.{Space, number_of}
use Rattle.bc_names.specs.Space.{names_of}

prefix_len-map : {X Y : Type 0} (p : Y → Bool) (f : X → Y) (xs : List X) → prefix_len p (map f xs) ≡ prefix_len (λ x. p (f x)) xs
prefix_len-map p f [] = refl
prefix_len-map p f (x ∷ xs) = ap (λ n. cond (p (f x)) (1 + n) 0) (prefix_len-map p f xs)

position-map : {X Y : Type 0} (p : Y → Bool) (f : X → Y) (xs : List X) → position p (map f xs) ≡ position (λ x. p (f x)) xs
position-map p f xs = rw (prefix_len-map (λ y. not (p y)) f xs, length-map xs f)

-- the number of a name is the index of its key
pub number_is_index : {Z : Type 0} (name : List ℕ) (keys : List (Vec ℕ Z)) → number_of (names_of keys) name ≡ position (λ k. pointwise nat_eq name k.items) keys
number_is_index name keys = position-map (pointwise nat_eq name) (λ k. k.items) keys

at_length : (n m : ℕ) → is_some (cond (nat_lt n m) (Some n) None) ≡ nat_lt n m
at_length n m = elim (nat_lt n m) as (λ b. is_some (cond b (Some n) None) ≡ b) [ true ↦ refl | false ↦ refl ]

one_further : (n m : ℕ) → nat_lt (1 + n) (suc m) ≡ nat_lt n m
one_further n m = ltb_from_iff ((λ h. omega (arith, ltb-true (1 + n) (suc m) h)), (λ h. lt-ltb (1 + n) (suc m) (omega arith)))

first_or_further : (b r : Bool) (n m : ℕ) → nat_lt n m ≡ r → nat_lt (cond (not b) (1 + n) 0) (suc m) ≡ (b || r)
first_or_further true r n m e = lt-ltb 0 (suc m) (omega arith)
first_or_further false r n m e = one_further n m ∙ e

within_any : {X : Type 0} (p : X → Bool) (xs : List X) → nat_lt (position_or_len p xs) (length xs) ≡ list_any p xs
within_any p [] = refl
within_any p (x ∷ xs) = first_or_further (p x) (list_any p xs) (position_or_len p xs) (length xs) (within_any p xs)

-- there is a first place exactly where there is one
position_any : {X : Type 0} (p : X → Bool) (xs : List X) → is_some (position p xs) ≡ list_any p xs
position_any p xs = at_length (position_or_len p xs) (length xs) ∙ within_any p xs

-- a name without a number is no key
pub no_key : {Z : Type 0} (name : List ℕ) (keys : List (Vec ℕ Z)) → number_of (names_of keys) name ≡ None → list_any (λ k. pointwise nat_eq name k.items) keys ≡ false
no_key name keys none = sym (position_any (λ k. pointwise nat_eq name k.items) keys) ∙ ap is_some (sym (number_is_index name keys) ∙ none)

-- the keys behind an insertion of a new one
pub one_more : {Z : Type 0} (keys more : List (Vec ℕ Z)) (space : Space) (name : List ℕ) (key : Vec ℕ Z) → names_of keys ≡ space → number_of space name ≡ None → key.items ≡ name → more ≡ if list_any (λ k. pointwise nat_eq key.items k.items) keys then keys else (keys ++ key ∷ []) → names_of more ≡ space ++ name ∷ []
one_more keys more space name key v none e p =
    let new : list_any (λ k. pointwise nat_eq key.items k.items) keys ≡ false = no_key key.items keys (ap (λ s. number_of s key.items) v ∙ ap (number_of space) e ∙ none) in
    ap names_of (p ∙ ap (λ b. if b then keys else (keys ++ key ∷ [])) new)
    ∙ map-append (λ k. k.items) keys (key ∷ [])
    ∙ ap (λ s. s ++ key.items ∷ []) v
    ∙ ap (λ n. space ++ n ∷ []) e

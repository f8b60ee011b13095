-- A space with one name more: the number of each name is still its place.
use Rattle.std.proofs.Common.{◌≡◌, ℕ, ◌+◌, ◌<◌, Bool, true, false, cond, not, List, [], ◌∷◌, ◌++◌, length, Some, None, slice_get, position, inl, inr, refl, ap, sym, ◌∙◌, arith}
use Rattle.std.specs.Prelude.{nat_eq, nat_lt}
use Rattle.std.specs.List.{position_or_len}
use Rattle.std.specs.Cmp.Lexicographic.{pointwise, bytes_decides}
use Rattle.std.proofs.lemmas.Bool.{cases_lt, eq-eqb, lt-ltb, ltb-false}
use Rattle.std.proofs.lemmas.List.{get_or_append_left, get_or_push, length-append}
use Rattle.std.proofs.lemmas.List.Folds.{position_or_len_push}
use Rattle.std.proofs.lemmas.List.Quantifiers.{position-Some}
use Rattle.std.proofs.lemmas.List.Sums.{position_or_len_is, prefix_len-le-length}
use Rattle.std.proofs.lemmas.Option.{get_or_from_slice_get, slice_get-get_or, slice_get_within}
use Rattle.bc_types_rules.specs.Numbering.{Space, number_of}
use Rattle.bc_types_rules.specs.NumberingLaws.{IsSpace}

at_place : {X : Type 0} (p : X → Bool) (xs : List X) (i : ℕ) → position_or_len p xs ≡ i → i < length xs → position p xs ≡ Some i
at_place p xs i first within = ap (λ n. cond (nat_lt n (length xs)) (Some n) None) first ∙ ap (λ b. cond b (Some i) None) (lt-ltb i (length xs) within)

-- a name that is there keeps its number
kept : {X : Type 0} (p : X → Bool) (xs : List X) (x : X) (i : ℕ) → position p xs ≡ Some i → position p (xs ++ x ∷ []) ≡ Some i
kept p xs x i e =
    let found = position-Some p xs i x e in
    let size = length-append xs (x ∷ []) in
    let same = λ (k : ℕ) (h : k < length xs). get_or_append_left xs (x ∷ []) x k h in
    let first : position_or_len p (xs ++ x ∷ []) ≡ i = position_or_len_is p (xs ++ x ∷ []) i x (omega arith) (λ k h. ap p (same k (omega arith)) ∙ found.2 k h) (λ _. ap p (same i found.0) ∙ found.1) in
    at_place p (xs ++ x ∷ []) i first (omega arith)

no_place : (b : Bool) (n : ℕ) → cond b (Some n) None ≡ None → b ≡ false
no_place true n e = cc
no_place false n e = refl

-- a new name has the last place
added : {X : Type 0} (p : X → Bool) (xs : List X) (x : X) → position p xs ≡ None → p x ≡ true → position p (xs ++ x ∷ []) ≡ Some (length xs)
added p xs x none here =
    let past = ltb-false (position_or_len p xs) (length xs) (no_place (nat_lt (position_or_len p xs) (length xs)) (position_or_len p xs) none) in
    let most = prefix_len-le-length (λ y. not (p y)) xs in
    let last : position_or_len p xs ≡ length xs = omega arith in
    let size = length-append xs (x ∷ []) in
    let first : position_or_len p (xs ++ x ∷ []) ≡ length xs + 0 =
    position_or_len_push p xs x
    ∙ ap (λ b. cond b (length xs + cond (p x) 0 1) (position_or_len p xs)) (eq-eqb (position_or_len p xs) (length xs) last)
    ∙ ap (λ b. length xs + cond b 0 1) here in
    at_place p (xs ++ x ∷ []) (length xs) (omega arith) (omega arith)

pub no_names : (most : ℕ) → IsSpace most []
no_names most = record { few = omega arith; places = λ i name at. absurd (past i (slice_get_within [] i name at)) }
  where
    past : (i : ℕ) → i < 0 → ⊥
    past i h = omega arith

module _ (most : ℕ) (s : Space) (x : List ℕ) (is : IsSpace most s) (new : number_of s x ≡ None) where
  old_place : (i : ℕ) (name : List ℕ) → i < length s → slice_get (s ++ x ∷ []) i ≡ Some name → number_of (s ++ x ∷ []) name ≡ Some i
  old_place i name within at =
      let there = sym (get_or_append_left s (x ∷ []) name i within) ∙ get_or_from_slice_get (s ++ x ∷ []) i name name at in
      kept (pointwise nat_eq name) s x i (is.places i name (slice_get-get_or s i name within ∙ ap Some there))

  new_place : (i : ℕ) (name : List ℕ) → length s ≡ i → slice_get (s ++ x ∷ []) i ≡ Some name → number_of (s ++ x ∷ []) name ≡ Some i
  new_place i name last at =
      let same = sym (get_or_from_slice_get (s ++ x ∷ []) i name name at) ∙ get_or_push s x name i last in
      added (pointwise nat_eq name) s x (ap (number_of s) same ∙ new) ((bytes_decides name x).1 same) ∙ ap Some last

  pub with_one_more : length s < most → IsSpace most (s ++ x ∷ [])
  with_one_more room =
      let size = length-append s (x ∷ []) in
      record {
        few = omega arith;
        places = λ i name at.
            let within = slice_get_within (s ++ x ∷ []) i name at in
            elim (cases_lt i (length s)) [ inl before ↦ old_place i name before at | inr behind ↦ new_place i name (omega arith) at ];
      }

pub only_name : (most : ℕ) (x : List ℕ) → 0 < most → IsSpace most (x ∷ [])
only_name most x room = with_one_more most [] x (no_names most) refl room

-- A sorted list with each of its elements once.
use Rattle.std.proofs.Common.{◌≡◌, ℕ, zero, suc, ◌+◌, ◌<◌, Bool, true, false, cond, ◌||◌, List, [], ◌∷◌, ◌++◌, length, drop, get_or, append_assoc, Ok, Err, Option, slice_get, refl, sym, ap, ap₂, subst, ◌∙◌, inl, inr, arith}
use Rattle.std.specs.Prelude.{IfOk, Result}
use Rattle.std.specs.declared.alloc.AllocError.{AllocError}
use Rattle.std.proofs.Math.Seq.{drop-cons}
use Rattle.std.specs.Cmp.{IsStrictWeakOrder}
use Rattle.std.specs.List.{AllByRecursion}
use Rattle.std.specs.List.Sorted.{IsPermutation, IsSortedBy}
use Rattle.std.proofs.lemmas.Bool.{false≢true}
use Rattle.std.proofs.lemmas.List.Sorted.{ranks_by, list_any-IsPermutation}
use Rattle.bc_data.specs.declared.run.Invocation.{Invocation}
use Rattle.bc_mean.specs.Enabled.{is_some_and}
use Rattle.bc_mean.specs.Orders.{precedes}
use Rattle.bc_mean.specs.Serial.{listed, same_invocation}
use Rattle.bc_mean.proofs.Lists.{Chain, pairs_from_chain}
use Rattle.bc_mean.proofs.Orders.{invocations_total, precedes_trans, same_itself, same_true, strictly_ordered}
use Rattle.bc_failed.proofs.Stable.{MayPrecede, sorted_chain}
use Rattle.bc_book_lists.specs.Search.{IsListOf, distinct}

pub precedes_ranks : IsStrictWeakOrder precedes
precedes_ranks = ranks_by invocations_total (λ (v : Invocation). v)

abbrev Before : Invocation → Invocation → Type 0
Before v w = precedes v w ≡ true

same_members : (v w u : Invocation) (b : Bool) → same_invocation v w ≡ true → (same_invocation u w || b) ≡ (same_invocation u v || (same_invocation u w || b))
same_members v w u b e =
    subst (λ (z : Invocation). (same_invocation u z || b) ≡ (same_invocation u v || (same_invocation u z || b))) (same_true v w e) (twice (same_invocation u v) b)
  where
    twice : (a b : Bool) → (a || b) ≡ (a || (a || b))
    twice a b = grind arith

distinct_members : (vs : List Invocation) (u : Invocation) → listed (distinct vs) u ≡ listed vs u
distinct_members [] u = refl
distinct_members (v ∷ []) u = refl
distinct_members (v ∷ w ∷ ws) u = at (same_invocation v w) refl (distinct_members (w ∷ ws) u)
  where
    at : (b : Bool) → same_invocation v w ≡ b → listed (distinct (w ∷ ws)) u ≡ listed (w ∷ ws) u → listed (cond b (distinct (w ∷ ws)) (v ∷ distinct (w ∷ ws))) u ≡ listed (v ∷ w ∷ ws) u
    at true e h = h ∙ same_members v w u (listed ws u) e
    at false e h = ap (λ (b : Bool). same_invocation u v || b) h

-- what holds of each holds of each once
each_distinct : (P : Invocation → Type 0) (vs : List Invocation) → AllByRecursion P vs → AllByRecursion P (distinct vs)
each_distinct P [] a = tt
each_distinct P (v ∷ vs) a = at (is_some_and (slice_get vs 0) (same_invocation v)) (each_distinct P vs a.1)
  where
    at : (b : Bool) → AllByRecursion P (distinct vs) → AllByRecursion P (cond b (distinct vs) (v ∷ distinct vs))
    at true h = h
    at false h = (a.0, h)

later : (v w : Invocation) → same_invocation v w ≡ false → MayPrecede precedes v w → Before v w
later v w n m = elim (strictly_ordered.total v w) [
  | inl e ↦ absurd (false≢true (sym n ∙ subst (λ (z : Invocation). same_invocation v z ≡ true) e (same_itself v)))
  | inr d ↦ elim d [ inl l ↦ l | inr l ↦ absurd (false≢true (sym m ∙ l)) ]
]

-- v precedes w and all that may stand behind w
all_later : (v w : Invocation) (ws : List Invocation) → Before v w → AllByRecursion (MayPrecede precedes w) ws → AllByRecursion (Before v) ws
all_later v w [] l a = tt
all_later v w (u ∷ us) l a = (further, all_later v w us l a.1)
  where
    further : Before v u
    further = elim (strictly_ordered.total w u) [
      | inl e ↦ subst (Before v) e l
      | inr d ↦ elim d [ inl k ↦ precedes_trans v w u l k | inr k ↦ absurd (false≢true (sym a.0 ∙ k)) ]
    ]

distinct_chain : (vs : List Invocation) → Chain (MayPrecede precedes) vs → Chain Before (distinct vs)
distinct_chain [] c = tt
distinct_chain (v ∷ []) c = (tt, tt)
distinct_chain (v ∷ w ∷ ws) c = at (same_invocation v w) refl (distinct_chain (w ∷ ws) c.1)
  where
    at : (b : Bool) → same_invocation v w ≡ b → Chain Before (distinct (w ∷ ws)) → Chain Before (cond b (distinct (w ∷ ws)) (v ∷ distinct (w ∷ ws)))
    at true e h = h
    at false e h = let l = later v w e c.0.0 in (each_distinct (Before v) (w ∷ ws) (l, all_later v w ws l c.1.0), h)

pub listed_once : (old sorted : List Invocation) → IsSortedBy precedes sorted → IsPermutation old sorted → IsListOf (listed old) (distinct sorted)
listed_once old sorted up same = record {
  ascending = pairs_from_chain Before (distinct sorted) (distinct_chain sorted (sorted_chain precedes precedes_ranks sorted up));
  members = λ u. distinct_members sorted u ∙ sym (list_any-IsPermutation (same_invocation u) old sorted same);
}

-- one turn of the loop that keeps each once
front_of_drop : (xs : List Invocation) (n : ℕ) → slice_get (drop n xs) 0 ≡ slice_get xs n
front_of_drop xs zero = refl
front_of_drop [] (suc n) = refl
front_of_drop (x ∷ xs) (suc n) = front_of_drop xs n

pub distinct_turn :
    (xs : List Invocation) (i : ℕ) (v : Invocation) (again : Bool) (old new : List Invocation)
    → i < length xs
    → v ≡ get_or xs i v
    → again ≡ is_some_and (slice_get xs (i + 1)) (same_invocation v)
    → distinct xs ≡ old ++ distinct (drop i xs)
    → new ≡ cond again old (old ++ v ∷ [])
    → distinct xs ≡ new ++ distinct (drop (i + 1) xs)
distinct_turn xs i v again old new low is test before step =
    let next : i + 1 ≡ suc i = omega arith in
    let rest : drop (i + 1) xs ≡ drop (suc i) xs = ap (λ (n : ℕ). drop n xs) next in
    let front : drop i xs ≡ v ∷ drop (i + 1) xs =
    drop-cons xs i v low ∙ ap₂ (λ (u : Invocation) (us : List Invocation). u ∷ us) (sym is) (sym rest) in
    let tested : is_some_and (slice_get (drop (i + 1) xs) 0) (same_invocation v) ≡ again = ap (λ (o : Option Invocation). is_some_and o (same_invocation v)) (front_of_drop xs (i + 1)) ∙ sym test in
    before
    ∙ ap (λ (l : List Invocation). old ++ distinct l) front
    ∙ ap (λ (b : Bool). old ++ cond b (distinct (drop (i + 1) xs)) (v ∷ distinct (drop (i + 1) xs))) tested
    ∙ (at again ∙ ap (λ (l : List Invocation). l ++ distinct (drop (i + 1) xs)) (sym step))
  where
    at : (b : Bool) → old ++ cond b (distinct (drop (i + 1) xs)) (v ∷ distinct (drop (i + 1) xs)) ≡ cond b old (old ++ v ∷ []) ++ distinct (drop (i + 1) xs)
    at true = refl
    at false = sym (append_assoc old (v ∷ []) (distinct (drop (i + 1) xs)))

pub ok_list : (test : Invocation → Bool) (found : List Invocation) (r : Result (List Invocation) AllocError) → IsListOf test found → IfOk r (λ l. l ≡ found) → IfOk r (IsListOf test)
ok_list test found (Ok l) h e = subst (IsListOf test) (sym e) h
ok_list test found (Err x) h e = tt

pub ok_weaker : (A B : List Invocation → Type 0) (r : Result (List Invocation) AllocError) → ((l : List Invocation) → A l → B l) → IfOk r A → IfOk r B
ok_weaker A B (Ok l) h a = h l a
ok_weaker A B (Err x) h a = tt

-- Counts of invocations.
use Rattle.std.proofs.Common.{◌≡◌, ℕ, ◌+◌, ◌<◌, Bool, true, false, cond, map, List, [], ◌∷◌, ◌++◌, filter, length, take, get_or, Option, Some, None, refl, sym, ap, ◌∙◌, arith}
use Rattle.std.specs.List.{range_with_len}
use Rattle.std.proofs.lemmas.List.{take_more}
use Rattle.std.proofs.lemmas.List.FromFn.{map-range_with_len_more}
use Rattle.bc_data.specs.declared.run.Invocation.{Invocation}
use Rattle.bc_mean.specs.Enabled.{is_some_and}
use Rattle.bc_book_events.specs.Book.{busy}

one_in : (test : Invocation → Bool) (u : Invocation) (b : Bool) (A : List Invocation) (n : ℕ) → length (cond b (u ∷ A) A) ≡ length A + cond b 1 0
one_in test u true A n = omega arith
one_in test u false A n = omega arith

busy_push : (test : Invocation → Bool) (xs : List (Option Invocation)) (slot : Option Invocation) → length (filter test (busy (xs ++ slot ∷ []))) ≡ length (filter test (busy xs)) + cond (is_some_and slot test) 1 0
busy_push test [] None = refl
busy_push test [] (Some u) = one_in test u (test u) [] 0
busy_push test (None ∷ xs) slot = busy_push test xs slot
busy_push test (Some u ∷ xs) slot =
    let h = busy_push test xs slot in
    let a : length (cond (test u) (u ∷ filter test (busy (xs ++ slot ∷ []))) (filter test (busy (xs ++ slot ∷ [])))) ≡ length (filter test (busy (xs ++ slot ∷ []))) + cond (test u) 1 0 = one_in test u (test u) (filter test (busy (xs ++ slot ∷ []))) 0 in
    let b : length (cond (test u) (u ∷ filter test (busy xs)) (filter test (busy xs))) ≡ length (filter test (busy xs)) + cond (test u) 1 0 = one_in test u (test u) (filter test (busy xs)) 0 in
    omega (arith, a, b, h)

pub busy_more : (test : Invocation → Bool) (held : List (Option Invocation)) (i : ℕ) (slot : Option Invocation) → i < length held → slot ≡ get_or held i None
    → length (filter test (busy (take (i + 1) held))) ≡ length (filter test (busy (take i held))) + cond (is_some_and slot test) 1 0
busy_more test held i slot low is =
    ap (λ (l : List (Option Invocation)). length (filter test (busy l))) (take_more held i None low ∙ ap (λ (o : Option Invocation). take i held ++ o ∷ []) (sym is))
    ∙ busy_push test (take i held) slot

pub range_more : (a n : ℕ) → range_with_len a (n + 1) ≡ range_with_len a n ++ (a + n) ∷ []
range_more a n = sym (map_same (range_with_len a (n + 1))) ∙ (map-range_with_len_more (λ x. x) a n (a + n) refl ∙ ap (λ (l : List ℕ). l ++ (a + n) ∷ []) (map_same (range_with_len a n)))
  where
    map_same : (xs : List ℕ) → map (λ x. x) xs ≡ xs
    map_same [] = refl
    map_same (x ∷ xs) = ap (λ (l : List ℕ). x ∷ l) (map_same xs)

-- one worker more
pub counted_in : (test : Invocation → Bool) (held : List (Option Invocation)) (i : ℕ) (slot : Option Invocation) (n : ℕ) → i < length held → slot ≡ get_or held i None → n ≡ length (filter test (busy (take i held))) → true ≡ is_some_and slot test → n + 1 ≡ length (filter test (busy (take (i + 1) held)))
counted_in test held i slot n low is before good =
    ap (λ (k : ℕ). k + 1) before ∙ sym (busy_more test held i slot low is ∙ ap (λ (b : Bool). length (filter test (busy (take i held))) + cond {A = ℕ} b 1 0) (sym good))

pub counted_out : (test : Invocation → Bool) (held : List (Option Invocation)) (i : ℕ) (slot : Option Invocation) (n : ℕ) → i < length held → slot ≡ get_or held i None → n ≡ length (filter test (busy (take i held))) → false ≡ is_some_and slot test → n ≡ length (filter test (busy (take (i + 1) held)))
counted_out test held i slot n low is before good =
    before ∙ (sym (plus_none (length (filter test (busy (take i held))))) ∙ sym (busy_more test held i slot low is ∙ ap (λ (b : Bool). length (filter test (busy (take i held))) + cond {A = ℕ} b 1 0) (sym good)))
  where
    plus_none : (k : ℕ) → k + 0 ≡ k
    plus_none k = omega arith

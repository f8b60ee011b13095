-- Members of pending lists and failures of an invocation, where lists are cut or grow.
use Rattle.std.proofs.Common.{◌≡◌, ◌≢◌, ℕ, inl, inr, Bool, true, false, not, cond, ◌&&◌, ◌||◌, List, [], ◌∷◌, ◌++◌, filter, Some, refl, sym, ap, ap₂, ◌∙◌, subst, arith}
use Rattle.std.specs.Prelude.{AllPairs}
use Rattle.std.specs.List.{AllByRecursion, find, list_any}
use Rattle.std.specs.Set.{remove_key}
use Rattle.std.proofs.lemmas.Bool.{false≢true, or_parts, cond_both, cases_Bool, false_from_ne_true}
use Rattle.std.proofs.lemmas.Option.{same_Some, none-some}
use Rattle.std.proofs.lemmas.List.Elements.{All-from_recursion}
use Rattle.std.proofs.lemmas.List.Folds.{list_any-append}
use Rattle.std.proofs.lemmas.List.Quantifiers.{all_pairs_push}
use Rattle.bc_data.specs.declared.run.Invocation.{Invocation}
use Rattle.bc_mean.specs.Serial.{Failed, has_failure, is_untouched, listed, same_invocation}
use Rattle.bc_mean.proofs.Lists.{Chain, each_weaker}
use Rattle.bc_mean.proofs.Orders.{each_listed, listed_here, listed_later, same_itself, same_true}
use Rattle.bc_book_events.specs.Reshaped.{failures_dropped}
use Rattle.bc_book_events.specs.Steps.{failures_left}

abbrev pub Differ : Invocation → Invocation → Type 0
Differ v w = v ≢ w

abbrev pub DifferentFailures : Failed → Failed → Type 0
DifferentFailures f g = f.v ≢ g.v

pub none_of : {X : Type 0} (p : X → Bool) (xs : List X) → list_any p xs ≡ false → AllByRecursion (λ x. p x ≡ false) xs
none_of p [] h = tt
none_of p (x ∷ xs) h = let q = or_parts (p x) (list_any p xs) h in (q.0, none_of p xs q.1)

-- what the invocations that are the same as v have in common
pub at_same : (P : Invocation → Type 0) (v w : Invocation) → same_invocation w v ≡ true → P v → P w
at_same P v w e h = subst P (sym (same_true w v e)) h

-- the first that passes the test is one of them
pub found_listed : (test : Invocation → Bool) (ws : List Invocation) (v : Invocation) → find test ws ≡ Some v → listed ws v ≡ true
found_listed test [] v h = absurd (none-some v h)
found_listed test (w ∷ ws) v h = elim (cases_Bool (test w)) [
  | inl e ↦ subst (λ (z : Invocation). listed (w ∷ ws) z ≡ true) (same_Some w v (subst (λ (b : Bool). cond b (Some w) (find test ws) ≡ Some v) e h)) (listed_here w ws)
  | inr e ↦ listed_later w ws v (found_listed test ws v (subst (λ (b : Bool). cond b (Some w) (find test ws) ≡ Some v) e h))
]

-- a listed one is the first that is the same
pub found_same : (ws : List Invocation) (v : Invocation) → listed ws v ≡ true → find (same_invocation v) ws ≡ Some v
found_same [] v h = absurd (false≢true h)
found_same (w ∷ ws) v h = elim (cases_Bool (same_invocation v w)) [
  | inl e ↦ ap (λ (c : Bool). cond c (Some w) (find (same_invocation v) ws)) e ∙ ap (λ (u : Invocation). Some u) (sym (same_true v w e))
  | inr e ↦ ap (λ (c : Bool). cond c (Some w) (find (same_invocation v) ws)) e ∙ found_same ws v (subst (λ (c : Bool). (c || listed ws v) ≡ true) e h)
]

-- without it, the others are left
first_bools : (s l : Bool) → (s ≡ true → l ≡ false) → l ≡ ((s || l) && not s)
first_bools s l h = grind (arith, h)

later_bools : (x s l r : Bool) → (x ≡ true → s ≡ false) → r ≡ (l && not s) → (x || r) ≡ ((x || l) && not s)
later_bools x s l r h e = grind (arith, h, e)

pub listed_removed : (test : Invocation → Bool) (ws : List Invocation) (v : Invocation) → Chain Differ ws → find test ws ≡ Some v → (u : Invocation) → listed (remove_key test ws) u ≡ (listed ws u && not (same_invocation u v))
listed_removed test [] v c h u = absurd (none-some v h)
listed_removed test (w ∷ ws) v c h u = elim (cases_Bool (test w)) [
  | inl e ↦ subst (λ (b : Bool). listed (cond b ws (w ∷ remove_key test ws)) u ≡ (listed (w ∷ ws) u && not (same_invocation u v))) (sym e)
      (subst (λ (z : Invocation). listed ws u ≡ (listed (w ∷ ws) u && not (same_invocation u z))) (same_Some w v (subst (λ (b : Bool). cond b (Some w) (find test ws) ≡ Some v) e h))
      (first_bools (same_invocation u w) (listed ws u) (λ s. false_from_ne_true (listed ws u) (λ t. each_listed (Differ w) ws u c.0 t (sym (same_true u w s))))))
  | inr e ↦ subst (λ (b : Bool). listed (cond b ws (w ∷ remove_key test ws)) u ≡ (listed (w ∷ ws) u && not (same_invocation u v))) (sym e)
      (let k : find test ws ≡ Some v = subst (λ (b : Bool). cond b (Some w) (find test ws) ≡ Some v) e h in
      later_bools (same_invocation u w) (same_invocation u v) (listed ws u) (listed (remove_key test ws) u)
      (λ s. false_from_ne_true (same_invocation u v) (λ t. each_listed (Differ w) ws v c.0 (found_listed test ws v k) (sym (same_true u w s) ∙ same_true u v t)))
      (listed_removed test ws v c.1 k u))
]

each_removed : (test : Invocation → Bool) (P : Invocation → Type 0) (ws : List Invocation) → AllByRecursion P ws → AllByRecursion P (remove_key test ws)
each_removed test P [] h = tt
each_removed test P (w ∷ ws) h = cond_both (test w) ws (w ∷ remove_key test ws) (AllByRecursion P) (λ _. h.1) (λ _. (h.0, each_removed test P ws h.1))

pub chain_removed : (test : Invocation → Bool) (ws : List Invocation) → Chain Differ ws → Chain Differ (remove_key test ws)
chain_removed test [] c = tt
chain_removed test (w ∷ ws) c = cond_both (test w) ws (w ∷ remove_key test ws) (Chain Differ) (λ _. c.1) (λ _. (each_removed test (Differ w) ws c.0, chain_removed test ws c.1))

-- one more behind the others
pub once_push : (ws : List Invocation) (v : Invocation) → AllPairs Differ ws → listed ws v ≡ false → AllPairs Differ (ws ++ v ∷ [])
once_push ws v h n =
    all_pairs_push Differ ws v h
    (All-from_recursion (λ w. w ≢ v) ws
    (each_weaker (λ w. same_invocation v w ≡ false) (λ w. w ≢ v) (λ w k e. false≢true (sym k ∙ subst (λ (z : Invocation). same_invocation v z ≡ true) (sym e) (same_itself v))) ws
    (none_of (same_invocation v) ws n)))

pub failed_push : (failures : List Failed) (f : Failed) → AllPairs DifferentFailures failures → has_failure failures f.v ≡ false → AllPairs DifferentFailures (failures ++ f ∷ [])
failed_push failures f h n =
    all_pairs_push DifferentFailures failures f h
    (All-from_recursion (λ g. DifferentFailures g f) failures
    (each_weaker (λ g. same_invocation f.v g.v ≡ false) (λ g. g.v ≢ f.v) (λ g k e. false≢true (sym k ∙ subst (λ (z : Invocation). same_invocation f.v z ≡ true) (sym e) (same_itself f.v))) failures
    (none_of (λ g. same_invocation f.v g.v) failures n)))

pub has_failure_push : (failures : List Failed) (f : Failed) (w : Invocation) → has_failure (failures ++ f ∷ []) w ≡ (has_failure failures w || (same_invocation w f.v || false))
has_failure_push failures f w = list_any-append (λ g. same_invocation w g.v) failures (f ∷ [])

-- a failure is dropped or left
split_any : {X : Type 0} (p q : X → Bool) (xs : List X) → list_any p xs ≡ (list_any p (filter (λ x. not (q x)) xs) || list_any p (filter q xs))
split_any p q [] = refl
split_any {X = X} p q (x ∷ xs) = at (q x) (p x) refl (split_any p q xs)
  where
    at : (b a : Bool) → p x ≡ a → list_any p xs ≡ (list_any p (filter (λ x. not (q x)) xs) || list_any p (filter q xs)) →
        (a || list_any p xs) ≡ (list_any p (cond (not b) (x ∷ filter (λ x. not (q x)) xs) (filter (λ x. not (q x)) xs)) || list_any p (cond b (x ∷ filter q xs) (filter q xs)))
    at true a e h = grind (arith, e, h)
    at false a e h = grind (arith, e, h)

pub failures_split : (changed : List ℕ) (failures : List Failed) (w : Invocation) → has_failure failures w ≡ (has_failure (failures_dropped changed failures) w || has_failure (failures_left changed failures) w)
failures_split changed failures w = split_any (λ f. same_invocation w f.v) (is_untouched changed) failures

-- two tests that agree on the members
pub filter_within : (p q : Invocation → Bool) (ws : List Invocation) → ((w : Invocation) → listed ws w ≡ true → p w ≡ q w) → filter p ws ≡ filter q ws
filter_within p q [] h = refl
filter_within p q (w ∷ ws) h =
    ap₂ (λ (b : Bool) (l : List Invocation). cond b (w ∷ l) l) (h w (listed_here w ws)) (filter_within p q ws (λ u m. h u (listed_later w ws u m)))

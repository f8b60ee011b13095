-- What was enabled before a commit.
use Rattle.std.proofs.Common.{◌≡◌, ℕ, ◌+◌, ◌≤◌, Bool, true, false, not, ◌||◌, List, [], ◌∷◌, ◌++◌, inl, inr, filter, length, take, Option, Some, refl, sym, ap, subst, ◌∙◌, arith}
use Rattle.std.specs.Prelude.{IfSome, nat_lt}
use Rattle.std.proofs.lemmas.Bool.{cases_Bool}
use Rattle.std.proofs.lemmas.Bool.Decides.{nat_tests}
use Rattle.std.proofs.lemmas.List.Filters.{length-filter_both}
use Rattle.bc_data.specs.Typed.{TypedProgram}
use Rattle.bc_data.specs.declared.run.Invocation.{Invocation}
use Rattle.bc_mean.specs.declared.plain.Plain.{Plain}
use Rattle.bc_mean.specs.Enabled.{all_enabled, is_enabled}
use Rattle.bc_mean.specs.Serial.{Failed, listed, same_invocation}
use Rattle.bc_mean.proofs.Orders.{listed_append, same_true}
use Rattle.bc_params_sets.specs.Kept.{Kept}
use Rattle.bc_book_events.specs.Book.{BookState, busy}
use Rattle.bc_book_events.specs.Reshaped.{names_any}
use Rattle.bc_book_events.specs.Sound.{IsSoundBook}
use Rattle.bc_book_events.proofs.Counted.{enabled_counted}
use Rattle.bc_book_lists.specs.Search.{AreBooks, AreOf, IsListOf, names_enabled}
use Rattle.bc_book_lists.proofs.CountReshaped.{whole}

-- what the search finds over any store of which these are the sets
abbrev pub Finds : List ℕ → Kept → List Invocation → Type 0
Finds reshaped kept found = (P : TypedProgram) (S : Plain) → AreOf P S kept → IsListOf (names_enabled P S reshaped) found

pub found_some : (reshaped : List ℕ) (kept : Kept) (o : Option (List Invocation)) (found : List Invocation) → o ≡ Some found → IfSome o (Finds reshaped kept) → Finds reshaped kept found
found_some reshaped kept o found e h = subst (λ (o : Option (List Invocation)). IfSome o (Finds reshaped kept)) e h

pub all_few : (b : BookState) → IsSoundBook b → length (all_enabled b.program b.store) ≤ 262144
all_few b sound = let roomy : nat_lt 262144 (length (all_enabled b.program b.store)) ≡ false = sound.roomy in grind (arith, nat_tests, roomy)

its_count : (b : BookState) → IsSoundBook b → length (all_enabled b.program b.store) ≡ length b.pending + (length (filter (is_enabled b.program b.store) (busy b.running)) + length b.failures)
its_count b sound = enabled_counted b sound.exact (λ k d l. (sound.failing k d l).enabled)

first_few : (a b c n m : ℕ) → n ≡ a + (b + c) → n ≤ 262144 → a ≡ m → m ≤ 262144
first_few a b c n m e l s = omega arith

pub pending_few : (b : BookState) (vs : List Invocation) (held : List (Option Invocation)) (fs : List Failed) → IsSoundBook b → AreBooks b vs held fs → length vs ≤ 262144
pending_few b vs held fs sound books =
    first_few (length b.pending) (length (filter (is_enabled b.program b.store) (busy b.running))) (length b.failures) (length (all_enabled b.program b.store)) (length vs) (its_count b sound) (all_few b sound) (ap length books.pending)

pub all_counted :
    (b : BookState) (vs : List Invocation) (held : List (Option Invocation)) (fs : List Failed) (n : ℕ)
    → IsSoundBook b
    → AreBooks b vs held fs
    → n ≡ length vs + (length (filter (is_enabled b.program b.store) (busy held)) + length fs)
    → n ≡ length (all_enabled b.program b.store)
all_counted b vs held fs n sound books e =
    e
    ∙ ap (λ (l : List Invocation). length l + (length (filter (is_enabled b.program b.store) (busy held)) + length fs)) (sym books.pending)
    ∙ (ap (λ (l : List (Option Invocation)). length b.pending + (length (filter (is_enabled b.program b.store) (busy l)) + length fs)) (sym books.running)
    ∙ (ap (λ (l : List Failed). length b.pending + (length (filter (is_enabled b.program b.store) (busy b.running)) + length l)) (sym books.failures)
    ∙ sym (its_count b sound)))

pub named_within : (P : TypedProgram) (S : Plain) (reshaped : List ℕ) (us : List Invocation) → IsListOf (names_enabled P S reshaped) us → length us ≤ length (all_enabled P S)
named_within P S reshaped us is =
    let all = all_enabled P S in
    omega (arith, ap length (whole P S reshaped us is), length-filter_both (names_any reshaped) (λ v. not (names_any reshaped v)) (λ v. refl) all)

-- one more of a list
pub each_more : (R : Invocation → Type 0) (vs : List Invocation) (i : ℕ) (x : Invocation) → ((w : Invocation) → listed (take i vs) w ≡ true → R w) → take (i + 1) vs ≡ take i vs ++ x ∷ [] → R x → (w : Invocation) → listed (take (i + 1) vs) w ≡ true → R w
each_more R vs i x h one r w m = elim (cases_Bool (listed (take i vs) w)) [
  | inl e ↦ h w e
  | inr e ↦ subst R (sym (same_true w x (last (same_invocation w x) (listed (take i vs) w) e (sym (listed_append (take i vs) (x ∷ []) w) ∙ (sym (ap (λ (l : List Invocation). listed l w) one) ∙ m))))) r
]
  where
    last : (s a : Bool) → a ≡ false → (a || (s || false)) ≡ true → s ≡ true
    last s a e h = grind (arith, e, h)

-- How many invocations are enabled.
use Rattle.std.proofs.Common.{◌≡◌, ◌≢◌, zero, suc, ◌+◌, inl, inr, Bool, true, false, not, ◌&&◌, ◌||◌, List, [], ◌∷◌, ◌++◌, map, length, length-append, filter, Option, Some, None, refl, sym, ap, ap₂, ◌∙◌, subst, arith}
use Rattle.std.specs.List.{AllByRecursion}
use Rattle.std.specs.Set.{remove_key}
use Rattle.std.proofs.lemmas.Bool.{and_parts, false≢true, or_cases}
use Rattle.std.proofs.lemmas.List.{length-map}
use Rattle.std.proofs.lemmas.List.Elements.{recursion_from_All}
use Rattle.std.proofs.lemmas.List.Kept.{AllPairs-filter}
use Rattle.std.proofs.lemmas.Map.Made.{length-remove_key}
use Rattle.bc_data.specs.declared.run.Invocation.{Invocation}
use Rattle.bc_mean.specs.Enabled.{IsEnabled, all_enabled, is_enabled}
use Rattle.bc_mean.specs.Serial.{Failed, has_failure, listed, same_invocation}
use Rattle.bc_mean.proofs.Enabled.{all_ascending, all_exact}
use Rattle.bc_mean.proofs.Lists.{Chain, across, chain_append, chain_from_pairs, chain_map, each_weaker, pairs_from_chain}
use Rattle.bc_mean.proofs.Orders.{each_listed, listed_append, listed_filter, listed_here, same_true}
use Rattle.bc_book_events.specs.Book.{busy, is_running}
use Rattle.bc_book_events.specs.Laws.{EnabledCounted}
use Rattle.bc_book_events.proofs.Exact.{before_differ, each_itself, ready}
use Rattle.bc_book_events.proofs.Members.{Differ, DifferentFailures, chain_removed, found_same, listed_removed}
use Rattle.bc_book_events.proofs.Running.{Alone, holder, listed_busy}

-- two lists without repeats that have the same members are equally long
same_length : (vs ws : List Invocation) → Chain Differ vs → Chain Differ ws → ((u : Invocation) → listed vs u ≡ listed ws u) → length vs ≡ length ws
same_length [] [] a b h = refl
same_length [] (w ∷ ws) a b h = absurd (false≢true (h w ∙ listed_here w ws))
same_length (v ∷ vs) ws a b h =
    let there : listed ws v ≡ true = sym (h v) ∙ listed_here v vs in
    let fewer : length (remove_key (same_invocation v) ws) + 1 ≡ length ws = length-remove_key (same_invocation v) ws there in
    let same : length vs ≡ length (remove_key (same_invocation v) ws) =
    same_length vs (remove_key (same_invocation v) ws) a.1 (chain_removed (same_invocation v) ws b)
    (λ u.
    rest_bools (same_invocation u v) (listed vs u) (listed ws u) (h u) (λ e. not_again u e)
    ∙ sym (listed_removed (same_invocation v) ws v b (found_same ws v there) u)) in
    omega (arith, fewer, same)
  where
    not_again : (u : Invocation) → same_invocation u v ≡ true → listed vs u ≡ true → ⊥
    not_again u e t = each_listed (Differ v) vs u a.0 t (sym (same_true u v e))

    rest_bools : (s l m : Bool) → (s || l) ≡ m → (s ≡ true → l ≡ true → ⊥) → l ≡ (m && not s)
    rest_bools true true m h n = absurd (n refl refl)
    rest_bools true false m h n = grind (arith, h)
    rest_bools false l m h n = grind (arith, h)

-- what workers have is not one thing twice
chain_busy : (running : List (Option Invocation)) → Alone running → Chain Differ (busy running)
chain_busy [] alone = tt
chain_busy (None ∷ rest) alone = chain_busy rest (λ i j v a b. omega (arith, alone (suc i) (suc j) v a b))
chain_busy (Some v ∷ rest) alone = (
  each_weaker (λ w. listed (busy rest) w ≡ true) (Differ v)
      (λ w h e.
      let q = holder rest w (sym (listed_busy rest w) ∙ h) in
      let none : zero ≡ suc q.0 = alone zero (suc q.0) w (ap (λ (z : Invocation). Some z) e) q.1 in
      absurd (omega (arith, none)))
      (busy rest) (each_itself (busy rest)),
  chain_busy rest (λ i j u a b. omega (arith, alone (suc i) (suc j) u a b)),
)

listed_failed : (fs : List Failed) (u : Invocation) → listed (map (λ f. f.v) fs) u ≡ has_failure fs u
listed_failed [] u = refl
listed_failed (f ∷ fs) u = ap (λ (b : Bool). same_invocation u f.v || b) (listed_failed fs u)

failed_enabled : (Q : Invocation → Type 0) (fs : List Failed) (u : Invocation) → AllByRecursion (λ f. Q f.v) fs → has_failure fs u ≡ true → Q u
failed_enabled Q [] u a h = absurd (false≢true h)
failed_enabled Q (f ∷ fs) u a h = elim (or_cases (same_invocation u f.v) (has_failure fs u) h) [
  | inl e ↦ subst Q (sym (same_true u f.v e)) a.0
  | inr e ↦ failed_enabled Q fs u a.1 e
]

all_bools : (p e r f : Bool) → p ≡ (e && (not r && not f)) → (f ≡ true → e ≡ true) → e ≡ (p || ((r && e) || f))
all_bools p e r f x h = grind (arith, x, h)

pub enabled_counted : EnabledCounted
enabled_counted b exact failing =
    same_length all ways (chain_from_pairs Differ all (λ i j d k l. before_differ _ _ (all_ascending b.program b.store i j d k l))) once
    (λ u.
    all_exact b.program b.store u
    ∙ (all_bools (listed b.pending u) (is_enabled b.program b.store u) (is_running b.running u) (has_failure b.failures u) (exact.pending u)
    (failed_enabled (IsEnabled b.program b.store) b.failures u (recursion_from_All (λ f. IsEnabled b.program b.store f.v) b.failures failing))
    ∙ sym (listed_ways u)))
    ∙ (length-append b.pending (running ++ failed)
    ∙ ap (λ n. length b.pending + n) (length-append running failed ∙ ap (λ n. length running + n) (length-map b.failures (λ f. f.v))))
  where
    all : List Invocation
    all = all_enabled b.program b.store

    running : List Invocation
    running = filter (is_enabled b.program b.store) (busy b.running)

    failed : List Invocation
    failed = map (λ f. f.v) b.failures

    ways : List Invocation
    ways = b.pending ++ (running ++ failed)

    listed_others : (u : Invocation) → listed (running ++ failed) u ≡ ((is_running b.running u && is_enabled b.program b.store u) || has_failure b.failures u)
    listed_others u =
        listed_append running failed u
        ∙ ap₂ (λ (c : Bool) (d : Bool). c || d) (listed_filter (is_enabled b.program b.store) (busy b.running) u ∙ ap (λ (c : Bool). c && is_enabled b.program b.store u) (listed_busy b.running u)) (listed_failed b.failures u)

    listed_ways : (u : Invocation) → listed ways u ≡ (listed b.pending u || ((is_running b.running u && is_enabled b.program b.store u) || has_failure b.failures u))
    listed_ways u = listed_append b.pending (running ++ failed) u ∙ ap (λ (c : Bool). listed b.pending u || c) (listed_others u)

    none_bools : (r e f : Bool) → r ≡ false → f ≡ false → ((r && e) || f) ≡ false
    none_bools r e f h k = grind (arith, h, k)

    apart : (x y : Invocation) → listed b.pending x ≡ true → listed (running ++ failed) y ≡ true → x ≢ y
    apart x y h k e =
        let q = ready b exact x h in
        false≢true (sym (none_bools (is_running b.running x) (is_enabled b.program b.store x) (has_failure b.failures x) q.1 q.2)
        ∙ (sym (listed_others x) ∙ subst (λ (z : Invocation). listed (running ++ failed) z ≡ true) (sym e) k))

    apart_too : (x y : Invocation) → listed running x ≡ true → listed failed y ≡ true → x ≢ y
    apart_too x y h k e =
        let on = (and_parts (listed (busy b.running) x) (is_enabled b.program b.store x) (sym (listed_filter (is_enabled b.program b.store) (busy b.running) x) ∙ h)).0 in
        false≢true (sym (exact.unfailed x (sym (listed_busy b.running x) ∙ on)) ∙ (sym (listed_failed b.failures x) ∙ subst (λ (z : Invocation). listed failed z ≡ true) (sym e) k))

    once : Chain Differ ways
    once =
        chain_append Differ b.pending (running ++ failed) (chain_from_pairs Differ b.pending exact.once)
        (chain_append Differ running failed
        (chain_from_pairs Differ running (AllPairs-filter Differ (is_enabled b.program b.store) (busy b.running) (pairs_from_chain Differ (busy b.running) (chain_busy b.running exact.alone))))
        (chain_map DifferentFailures Differ (λ f. f.v) (λ x y n. n) b.failures (chain_from_pairs DifferentFailures b.failures exact.failed_once))
        (across Differ (λ x. listed running x ≡ true) (λ y. listed failed y ≡ true) apart_too running failed (each_itself running) (each_itself failed)))
        (across Differ (λ x. listed b.pending x ≡ true) (λ y. listed (running ++ failed) y ≡ true) apart b.pending (running ++ failed) (each_itself b.pending) (each_itself (running ++ failed)))

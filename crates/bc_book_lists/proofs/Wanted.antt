-- What a commit appends is what the search finds.
use Rattle.std.proofs.Common.{◌≡◌, ◌≢◌, ◌⊎◌, ℕ, inl, inr, Bool, true, false, cond, not, ◌&&◌, ◌||◌, List, [], ◌∷◌, filter, set, Option, None, refl, sym, ap, ap₂, subst, ◌∙◌, arith}
use Rattle.std.specs.Bool.{OnFalse}
use Rattle.std.specs.List.{AllByRecursion}
use Rattle.std.proofs.lemmas.Bool.{and_parts, cases_Bool, false_from_ne_true, false≢true, or_parts, or_right}
use Rattle.std.proofs.lemmas.List.Elements.{recursion_from_All}
use Rattle.bc_data.specs.Typed.{TypedProgram}
use Rattle.bc_data.specs.declared.run.Invocation.{Invocation}
use Rattle.bc_mean.specs.declared.plain.Plain.{Plain}
use Rattle.bc_mean.specs.Enabled.{is_enabled}
use Rattle.bc_mean.specs.Serial.{Failed, has_failure, is_untouched, listed, same_invocation}
use Rattle.bc_mean.proofs.Lists.{Chain, chain_from_pairs}
use Rattle.bc_mean.proofs.Orders.{same_true}
use Rattle.bc_book_events.specs.Book.{BookState, is_running}
use Rattle.bc_book_events.specs.Reshaped.{failures_dropped, is_wanted, names_any}
use Rattle.bc_book_events.specs.Sound.{StillFails}
use Rattle.bc_book_events.specs.Steps.{failures_left}
use Rattle.bc_book_events.proofs.Exact.{ready}
use Rattle.bc_book_events.proofs.Members.{failures_split, filter_within}
use Rattle.bc_book_events.proofs.Running.{held_here, not_running_freed, running_freed}
use Rattle.bc_book_lists.specs.Search.{IsListOf, IsSearch, is_new, kept_behind, names_enabled}

-- a failure is of an enabled invocation
failed_enabled : (P : TypedProgram) (S : Plain) (fs : List Failed) (w : Invocation) → AllByRecursion (StillFails P S) fs → has_failure fs w ≡ true → is_enabled P S w ≡ true
failed_enabled P S [] w a h = absurd (false≢true h)
failed_enabled P S (f ∷ fs) w a h = elim (cases_Bool (same_invocation w f.v)) [
  | inl e ↦ subst (λ (z : Invocation). is_enabled P S z ≡ true) (sym (same_true w f.v e)) a.0.enabled
  | inr e ↦ failed_enabled P S fs w a.1 (sym (ap (λ (b : Bool). b || has_failure fs w) e) ∙ h)
]

-- a failure of another invocation than all of these
abbrev Other : Failed → Failed → Type 0
Other f g = f.v ≢ g.v

-- nothing has one failure that is dropped and one that is left
none_same : (f : Failed) (fs : List Failed) (w : Invocation) → same_invocation w f.v ≡ true → AllByRecursion (Other f) fs → has_failure fs w ≡ false
none_same f [] w e a = refl
none_same f (g ∷ gs) w e a =
    ap₂ (λ (x y : Bool). x || y)
    (false_from_ne_true (same_invocation w g.v) (λ h. a.0 (sym (same_true w f.v e) ∙ same_true w g.v h)))
    (none_same f gs w e a.1)

none_filtered : (p : Failed → Bool) (fs : List Failed) (w : Invocation) → has_failure fs w ≡ false → has_failure (filter p fs) w ≡ false
none_filtered p [] w h = refl
none_filtered p (f ∷ fs) w h =
    let q = or_parts (same_invocation w f.v) (has_failure fs w) h in
    at (p f) q.0 (none_filtered p fs w q.1)
  where
    at : (b : Bool) → same_invocation w f.v ≡ false → has_failure (filter p fs) w ≡ false → has_failure (cond b (f ∷ filter p fs) (filter p fs)) w ≡ false
    at true e k = ap₂ (λ (x y : Bool). x || y) e k
    at false e k = k

split_once : (p : Failed → Bool) (fs : List Failed) (w : Invocation) → Chain Other fs → has_failure (filter (λ f. not (p f)) fs) w ≡ true → has_failure (filter p fs) w ≡ false
split_once p [] w c h = refl
split_once p (f ∷ fs) w c h = at (p f) (same_invocation w f.v) (split_once p fs w c.1) refl h
  where
    at : (b s : Bool) → (has_failure (filter (λ (g : Failed). not (p g)) fs) w ≡ true → has_failure (filter p fs) w ≡ false) → same_invocation w f.v ≡ s → has_failure (cond (not b) (f ∷ (filter (λ (g : Failed). not (p g)) fs)) (filter (λ (g : Failed). not (p g)) fs)) w ≡ true → has_failure (cond b (f ∷ (filter p fs)) (filter p fs)) w ≡ false
    at true true rest e k = absurd (false≢true (sym (none_filtered (λ (g : Failed). not (p g)) fs w (none_same f fs w e c.0)) ∙ k))
    at true false rest e k = ap₂ (λ (x y : Bool). x || y) e (rest k)
    at false true rest e k = none_filtered p fs w (none_same f fs w e c.0)
    at false false rest e k = rest (sym (ap (λ (x : Bool). x || has_failure (filter (λ (g : Failed). not (p g)) fs) w) e) ∙ k)

found_bools :
    (m e e2 r r2 s f d k p : Bool)
    → p ≡ (e && (not r && not f))
    → r ≡ (s || r2)
    → f ≡ (d || k)
    → (f ≡ true → e ≡ true)
    → (r ≡ true → f ≡ false)
    → (d ≡ true → k ≡ false)
    → (s ≡ true → r2 ≡ false)
    → (((m && e2) && (not (m && e) && not r)) || ((d || s) && e2)) ≡ (e2 && ((m || (d || s)) && (not p && (not r2 && not k))))
found_bools m e e2 r r2 s f d k p a b c x y z u = grind (arith, a, b, c, x, y, z, u)

-- the test of a search that was given these lists
abbrev pub search_test : TypedProgram → Plain → Invocation → List ℕ → List Invocation → List Invocation → List (Option Invocation) → List Failed → Invocation → Bool
search_test P T v changed before behind held fs w =
    (listed behind w && is_new before held w) || ((has_failure (failures_dropped changed fs) w || same_invocation w v) && is_enabled P T w)

pub same_lists :
    (P : TypedProgram) (T : Plain) (v : Invocation) (changed : List ℕ) (us us2 ws ws2 : List Invocation) (held held2 : List (Option Invocation)) (fs fs2 : List Failed) (found : List Invocation)
    → us ≡ us2
    → ws ≡ ws2
    → held ≡ held2
    → fs ≡ fs2
    → IsListOf (search_test P T v changed us ws held fs) found
    → IsListOf (search_test P T v changed us2 ws2 held2 fs2) found
same_lists P T v changed us us2 ws ws2 held held2 fs fs2 found a b c d is = record {
  ascending = is.ascending;
  members = λ w.
      is.members w
      ∙ (ap₂ (λ (x y : List Invocation). search_test P T v changed x y held fs w) a b
      ∙ ap₂ (λ (x : List (Option Invocation)) (y : List Failed). search_test P T v changed us2 ws2 x y w) c d);
}

pub on_false : (b : Bool) (X : Type 0) → b ≡ false → OnFalse b X → X
on_false true X e h = absurd (false≢true (sym e))
on_false false X e h = h

-- what the search adds up, in other words
abbrev pub found_test : BookState → Plain → Invocation → List ℕ → List Invocation → List Invocation → Invocation → Bool
found_test b T v changed before behind w = search_test b.program T v changed before behind b.running b.failures w

module _ (b : BookState) (T : Plain) (worker : ℕ) (v : Invocation) (reshaped : List ℕ) (s : IsSearch b T worker v reshaped) where
  stands : AllByRecursion (StillFails b.program b.store) b.failures
  stands = recursion_from_All (StillFails b.program b.store) b.failures s.sound.failing

  abbrev others : List (Option Invocation)
  others = set b.running worker None

  module _ (before behind : List Invocation) (named : IsListOf (names_enabled b.program b.store reshaped) before) (now : IsListOf (names_enabled b.program T reshaped) behind) where
    its_test : (changed : List ℕ) (w : Invocation) → found_test b T v changed before behind w ≡ (is_enabled b.program T w && is_wanted reshaped changed worker v b w)
    its_test changed w =
        ap₂ (λ (x y : Bool). (x && (not y && not (is_running b.running w))) || ((has_failure (failures_dropped changed b.failures) w || same_invocation w v) && is_enabled b.program T w))
        (now.members w) (named.members w)
        ∙ found_bools (names_any reshaped w) (is_enabled b.program b.store w) (is_enabled b.program T w) (is_running b.running w) (is_running others w) (same_invocation w v)
        (has_failure b.failures w) (has_failure (failures_dropped changed b.failures) w) (has_failure (failures_left changed b.failures) w) (listed b.pending w)
        (s.sound.exact.pending w)
        (running_freed b.running worker v s.held w)
        (failures_split changed b.failures w)
        (failed_enabled b.program b.store b.failures w stands)
        (s.sound.exact.unfailed w)
        (split_once (is_untouched changed) b.failures w (chain_from_pairs Other b.failures s.sound.exact.failed_once))
        (λ h. subst (λ (z : Invocation). is_running others z ≡ false) (sym (same_true w v h)) (not_running_freed b.running worker v s.sound.exact.alone s.held))

    -- the list that the search gathers is what is appended
    pub wanted : (changed : List ℕ) (found : List Invocation) → IsListOf (found_test b T v changed before behind) found → IsListOf (λ w. is_enabled b.program T w && is_wanted reshaped changed worker v b w) found
    wanted changed found is = record { ascending = is.ascending; members = λ w. is.members w ∙ its_test changed w }

    -- where none is gone, the pending ones stay
    pub stay : ((w : Invocation) → listed before w ≡ true → (listed behind w ≡ true) ⊎ (same_invocation w v ≡ true)) → kept_behind b T reshaped ≡ b.pending
    stay each =
        filter_within (λ w. not (names_any reshaped w) || is_enabled b.program T w) (λ w. true) b.pending (λ w there. at w there (names_any reshaped w) refl)
        ∙ whole b.pending
      where
        whole : (xs : List Invocation) → filter (λ x. true) xs ≡ xs
        whole [] = refl
        whole (x ∷ xs) = ap (λ (l : List Invocation). x ∷ l) (whole xs)

        at : (w : Invocation) → listed b.pending w ≡ true → (m : Bool) → names_any reshaped w ≡ m → (not (names_any reshaped w) || is_enabled b.program T w) ≡ true
        at w there false e = ap (λ (x : Bool). not x || is_enabled b.program T w) e
        at w there true e =
            let r = ready b s.sound.exact w there in
            elim (each w (named.members w ∙ ap₂ (λ (x y : Bool). x && y) e r.0)) [
              | inl h ↦ or_right (not (names_any reshaped w)) (is_enabled b.program T w) (and_parts (names_any reshaped w) (is_enabled b.program T w) (sym (now.members w) ∙ h)).1
              | inr h ↦ absurd (false≢true (sym r.1 ∙ subst (λ (z : Invocation). is_running b.running z ≡ true) (sym (same_true w v h)) (held_here b.running worker v s.held)))
            ]

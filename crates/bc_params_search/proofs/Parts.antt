-- An ascending list falls into parts by the number that comes next.
use Rattle.std.proofs.Common.{◌≡◌, ℕ, ◌<◌, inl, inr, Bool, true, false, ◌&&◌, ◌||◌, ◌==◌, if◌then◌else◌, List, [], ◌∷◌, filter, Option, Some, None, refl, sym, ap, ap₂, ◌∙◌, subst}
use Rattle.std.specs.Prelude.{AllPairs}
use Rattle.std.specs.List.{flat_map, list_any, AllByRecursion}
use Rattle.std.proofs.lemmas.Bool.{false≢true, and_parts, and_from}
use Rattle.std.proofs.lemmas.List.Kept.{AllPairs-filter}
use Rattle.bc_data.specs.declared.run.Invocation.{Invocation}
use Rattle.bc_mean.specs.Enabled.{is_some_and}
use Rattle.bc_mean.specs.Orders.{precedes, IsAscending}
use Rattle.bc_mean.specs.Serial.{listed}
use Rattle.bc_mean.proofs.Lists.{chain_from_pairs, pairs_from_chain, chain_flat_map}
use Rattle.bc_mean.proofs.Orders.{both_ways, one_ascending, listed_filter, listed_append, listed_here, listed_later, listed_cases}
use Rattle.bc_params_sets.specs.Members.{has}

abbrev pub Before : Invocation → Invocation → Type 0
Before v w = precedes v w ≡ true

pub ascending_filter : (p : Invocation → Bool) (ws : List Invocation) → IsAscending ws → IsAscending (filter p ws)
ascending_filter p ws h = AllPairs-filter Before p ws h

-- what holds of each listed one holds of each
pub each_from_listed : (P : Invocation → Type 0) (ws : List Invocation) → ((v : Invocation) → listed ws v ≡ true → P v) → AllByRecursion P ws
each_from_listed P [] h = tt
each_from_listed P (w ∷ ws) h = (h w (listed_here w ws), each_from_listed P ws (λ v e. h v (listed_later w ws v e)))

pub listed_flat_map : (f : ℕ → List Invocation) (xs : List ℕ) (v : Invocation) → listed (flat_map f xs) v ≡ list_any (λ x. listed (f x) v) xs
listed_flat_map f [] v = refl
listed_flat_map f (x ∷ xs) v = listed_append (f x) (flat_map f xs) v ∙ ap (λ (b : Bool). listed (f x) v || b) (listed_flat_map f xs v)

pub any_alike : {X : Type 0} (p q : X → Bool) → ((x : X) → p x ≡ q x) → (xs : List X) → list_any p xs ≡ list_any q xs
any_alike p q h [] = refl
any_alike p q h (x ∷ xs) = ap₂ (λ (a : Bool) (b : Bool). a || b) (h x) (any_alike p q h xs)

any_and : {X : Type 0} (c : Bool) (p : X → Bool) (xs : List X) → list_any (λ x. c && p x) xs ≡ (c && list_any p xs)
any_and true p [] = refl
any_and false p [] = refl
any_and true p (x ∷ xs) = ap (λ (b : Bool). p x || b) (any_and true p xs)
any_and false p (x ∷ xs) = any_and false p xs

when : (a b c : Bool) → (a ≡ true → b ≡ c) → (a && b) ≡ (a && c)
when true b c h = h refl
when false b c h = refl

-- The parts of those that pass p: for each x of an ascending list those that pass q x.
pub in_parts : (all : List Invocation) → IsAscending all → (p : Invocation → Bool) (q : ℕ → Invocation → Bool) (xs : List ℕ) → AllPairs (λ x y. x < y) xs →
    ((x y : ℕ) (a b : Invocation) → x < y → (listed all a && q x a) ≡ true → (listed all b && q y b) ≡ true → Before a b) →
    ((v : Invocation) → listed all v ≡ true → p v ≡ list_any (λ x. q x v) xs) →
    filter p all ≡ flat_map (λ x. filter (q x) all) xs
in_parts all up p q xs rising apart members =
    one_ascending (filter p all) (flat_map (λ x. filter (q x) all) xs)
    (ascending_filter p all up)
    (pairs_from_chain Before (flat_map (λ x. filter (q x) all) xs)
    (chain_flat_map (λ x y. x < y) Before (λ x. filter (q x) all) (λ x v. (listed all v && q x v) ≡ true)
    (λ x. each_from_listed (λ v. (listed all v && q x v) ≡ true) (filter (q x) all) (λ v h. sym (listed_filter (q x) all v) ∙ h))
    apart
    (λ x. chain_from_pairs Before (filter (q x) all) (ascending_filter (q x) all up))
    xs (chain_from_pairs (λ x y. x < y) xs rising)))
    (λ v.
    listed_filter p all v
    ∙ when (listed all v) (p v) (list_any (λ x. q x v) xs) (members v)
    ∙ sym (listed_flat_map (λ x. filter (q x) all) xs v ∙ any_alike (λ x. listed (filter (q x) all) v) (λ x. listed all v && q x v) (λ x. listed_filter (q x) all v) xs ∙ any_and (listed all v) (λ x. q x v) xs))

-- whether the number is x
abbrev pub is_next : Option ℕ → ℕ → Bool
is_next o x = is_some_and o (λ y. x == y)

any_next : (o : Option ℕ) (xs : List ℕ) → list_any (is_next o) xs ≡ is_some_and o (has xs)
any_next None [] = refl
any_next None (x ∷ xs) = any_next None xs
any_next (Some y) xs = refl

both : (a b : Bool) → (a ≡ true → b ≡ true) → a ≡ (a && b)
both true b h = sym (h refl)
both false b h = refl

-- the same, where q x asks for x in one place more than p
pub next_parts : (all : List Invocation) → IsAscending all → (p : Invocation → Bool) (q : ℕ → Invocation → Bool) (next : Invocation → Option ℕ) (xs : List ℕ) → AllPairs (λ x y. x < y) xs →
    ((x y : ℕ) (a b : Invocation) → x < y → (listed all a && q x a) ≡ true → (listed all b && q y b) ≡ true → Before a b) →
    ((x : ℕ) (v : Invocation) → q x v ≡ (p v && is_next (next v) x)) →
    ((v : Invocation) → listed all v ≡ true → p v ≡ true → is_some_and (next v) (has xs) ≡ true) →
    filter p all ≡ flat_map (λ x. filter (q x) all) xs
next_parts all up p q next xs rising apart split covers =
    in_parts all up p q xs rising apart
    (λ v l.
    both (p v) (is_some_and (next v) (has xs)) (covers v l)
    ∙ sym (any_alike (λ x. q x v) (λ x. p v && is_next (next v) x) (λ x. split x v) xs ∙ any_and (p v) (is_next (next v)) xs ∙ ap (λ (b : Bool). p v && b) (any_next (next v) xs)))

-- where none passes
pub none_pass : (all : List Invocation) (p : Invocation → Bool) → ((v : Invocation) → listed all v ≡ true → p v ≡ true → ⊥) → filter p all ≡ []
none_pass [] p h = refl
none_pass (w ∷ ws) p h = at_first (p w) refl (none_pass ws p (λ v l k. h v (listed_later w ws v l) k))
  where
    at_first : (b : Bool) → p w ≡ b → filter p ws ≡ [] → (if b then w ∷ filter p ws else filter p ws) ≡ []
    at_first true e r = absurd (h w (listed_here w ws) e)
    at_first false e r = r

-- where one at most passes
pub one_passes : (all : List Invocation) → IsAscending all → (p : Invocation → Bool) (w : Invocation) → p w ≡ true → ((v : Invocation) → listed all v ≡ true → p v ≡ true → v ≡ w) →
    filter p all ≡ (if listed all w then w ∷ [] else [])
one_passes all up p w h only =
    one_ascending (filter p all) (if listed all w then w ∷ [] else [])
    (ascending_filter p all up)
    (alone (listed all w))
    (λ v. both_ways (listed (filter p all) v) (listed (if listed all w then w ∷ [] else []) v)
    (λ l.
    let k : (listed all v && p v) ≡ true = sym (listed_filter p all v) ∙ l in
    let t = and_parts (listed all v) (p v) k in
    let e : v ≡ w = only v t.0 t.1 in
    subst (λ (u : Invocation). listed (if listed all w then w ∷ [] else []) u ≡ true) (sym e)
    (subst (λ (b : Bool). listed (if b then w ∷ [] else []) w ≡ true) (sym (subst (λ (u : Invocation). listed all u ≡ true) e t.0)) (listed_here w [])))
    (λ l. let k = from (listed all w) refl v l in
    listed_filter p all v ∙ and_from (listed all v) (p v) (subst (λ (u : Invocation). listed all u ≡ true) (sym k.0) k.1) (subst (λ (u : Invocation). p u ≡ true) (sym k.0) h)))
  where
    alone : (b : Bool) → IsAscending (if b then w ∷ [] else [])
    alone true = pairs_from_chain Before (w ∷ []) (tt, tt)
    alone false = pairs_from_chain Before [] tt

    from : (b : Bool) → listed all w ≡ b → (v : Invocation) → listed (if b then w ∷ [] else []) v ≡ true → (v ≡ w) × (listed all w ≡ true)
    from true e v l = elim (listed_cases w [] v l) [ inl d ↦ (d, e) | inr d ↦ absurd (false≢true d) ]
    from false e v l = absurd (false≢true l)

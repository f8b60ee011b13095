-- The objects that a list of invocations names, as the list changes.
use Rattle.std.proofs.Common.{◌≡◌, ℕ, ◌+◌, ◌<◌, ◌==◌, Bool, true, false, not, ◌||◌, cond, List, [], ◌∷◌, ◌++◌, length, take, drop, filter, get_or, count_by, append_assoc, add-one, refl, sym, ap, ap₂, subst, ◌∙◌, arith}
use Rattle.std.specs.List.{list_any, remove}
use Rattle.std.proofs.lemmas.List.{append-nil, drop_more, take-append-drop}
use Rattle.std.proofs.lemmas.List.Elements.{filter_more}
use Rattle.std.proofs.lemmas.List.Sums.{sum_by-append, sum_by-cons}
use Rattle.bc_data.specs.declared.run.Invocation.{Invocation}
use Rattle.bc_tally.specs.Counts.{Counts}
use Rattle.bc_tally.proofs.Counted.{none_is_named}
use Rattle.bc_pending.specs.Lists.{names, stays}
use Rattle.bc_pending.specs.Named.{named_in}

counts_of : (counts xs ys : List ℕ) → xs ≡ ys → Counts counts xs → Counts counts ys
counts_of counts xs ys e h = subst (λ (zs : List ℕ). Counts counts zs) e h

named_append : (vs ws : List Invocation) → named_in (vs ++ ws) ≡ named_in vs ++ named_in ws
named_append [] ws = refl
named_append (v ∷ vs) ws = ap (λ (ids : List ℕ). v.objects ++ ids) (named_append vs ws) ∙ sym (append_assoc v.objects (named_in vs) (named_in ws))

-- what adding a list of objects, or removing it, does to counts
abbrev pub Adds : List ℕ → List ℕ → List ℕ → Type 0
Adds old ids new = (before after : List ℕ) → Counts old (before ++ after) → Counts new (before ++ (ids ++ after))

abbrev pub Removes : List ℕ → List ℕ → List ℕ → Type 0
Removes old ids new = (before after : List ℕ) → Counts old (before ++ (ids ++ after)) → Counts new (before ++ after)

pub pushed : (old new ids : List ℕ) (vs ws : List Invocation) (v : Invocation) → ids ≡ v.objects → ws ≡ vs ++ v ∷ [] → Adds old ids new → Counts old (named_in vs) → Counts new (named_in ws)
pushed old new ids vs ws v e h add c =
    counts_of new (named_in vs ++ (ids ++ [])) (named_in ws)
    (ap (λ (l : List ℕ). named_in vs ++ (l ++ [])) e ∙ sym (named_append vs (v ∷ [])) ∙ ap (λ (l : List Invocation). named_in l) (sym h))
    (add (named_in vs) [] (counts_of old (named_in vs) (named_in vs ++ []) (sym (append-nil (named_in vs))) c))

-- the objects from a place on
from_place : (vs : List Invocation) (i : ℕ) (v : Invocation) → i < length vs → get_or vs i v ≡ v → named_in (drop i vs) ≡ v.objects ++ named_in (drop (i + 1) vs)
from_place vs i v h e = ap (λ (l : List Invocation). named_in l) (drop_more vs i v h ∙ ap (λ (w : Invocation). w ∷ drop (i + 1) vs) e)

pub removed : (old new ids : List ℕ) (vs ws : List Invocation) (i : ℕ) (v : Invocation) → ids ≡ v.objects → i < length vs → get_or vs i v ≡ v → ws ≡ remove vs i → Removes old ids new → Counts old (named_in vs) → Counts new (named_in ws)
removed old new ids vs ws i v e h k r rem c =
    counts_of new (named_in (take i vs) ++ named_in (drop (i + 1) vs)) (named_in ws)
    (sym (named_append (take i vs) (drop (i + 1) vs)) ∙ ap (λ (n : ℕ). named_in (take i vs ++ drop n vs)) (add-one i) ∙ ap (λ (l : List Invocation). named_in l) (sym r))
    (rem (named_in (take i vs)) (named_in (drop (i + 1) vs)) (counts_of old (named_in vs) (named_in (take i vs) ++ (ids ++ named_in (drop (i + 1) vs))) split c))
  where
    split : named_in vs ≡ named_in (take i vs) ++ (ids ++ named_in (drop (i + 1) vs))
    split =
        ap (λ (l : List Invocation). named_in l) (sym (take-append-drop i vs))
        ∙ named_append (take i vs) (drop i vs)
        ∙ ap (λ (l : List ℕ). named_in (take i vs) ++ l) (from_place vs i v h k)
        ∙ ap (λ (l : List ℕ). named_in (take i vs) ++ (l ++ named_in (drop (i + 1) vs))) (sym e)

-- the objects of those that passed so far and of those that were not looked at yet
abbrev pub half : (Invocation → Bool) → List Invocation → ℕ → List ℕ
half p vs i = named_in (filter p (take i vs)) ++ named_in (drop i vs)

filter_step : (p : Invocation → Bool) (vs : List Invocation) (i : ℕ) (v : Invocation) (b : Bool) → i < length vs → get_or vs i v ≡ v → p v ≡ b → filter p (take (i + 1) vs) ≡ filter p (take i vs) ++ cond b (v ∷ []) []
filter_step p vs i v b h e k =
    filter_more p vs i v h
    ∙ ap (λ (w : Invocation). filter p (take i vs) ++ cond (p w) (w ∷ []) []) e
    ∙ ap (λ (b : Bool). filter p (take i vs) ++ cond b (v ∷ []) []) k

pub half_kept : (counts : List ℕ) (p : Invocation → Bool) (vs : List Invocation) (i : ℕ) (v : Invocation) → i < length vs → get_or vs i v ≡ v → p v ≡ true → Counts counts (half p vs i) → Counts counts (half p vs (i + 1))
half_kept counts p vs i v h e k c = counts_of counts (half p vs i) (half p vs (i + 1)) same c
  where
    done : List ℕ
    done = named_in (filter p (take i vs))

    rest : List ℕ
    rest = named_in (drop (i + 1) vs)

    more : named_in (filter p (take (i + 1) vs)) ≡ done ++ v.objects
    more =
        ap (λ (l : List Invocation). named_in l) (filter_step p vs i v true h e k)
        ∙ named_append (filter p (take i vs)) (v ∷ [])
        ∙ ap (λ (l : List ℕ). done ++ l) (append-nil v.objects)

    same : half p vs i ≡ half p vs (i + 1)
    same =
        ap (λ (l : List ℕ). done ++ l) (from_place vs i v h e)
        ∙ sym (append_assoc done v.objects rest)
        ∙ ap (λ (l : List ℕ). l ++ rest) (sym more)

pub half_dropped : (old new ids : List ℕ) (p : Invocation → Bool) (vs : List Invocation) (i : ℕ) (v w : Invocation) → i < length vs → get_or vs i v ≡ v → p v ≡ false → get_or vs i w ≡ w → ids ≡ w.objects → Removes old ids new → Counts old (half p vs i) → Counts new (half p vs (i + 1))
half_dropped old new ids p vs i v w h e k f o rem c =
    counts_of new (done ++ rest) (half p vs (i + 1)) (ap (λ (l : List Invocation). named_in l ++ rest) (sym less))
    (rem done rest (counts_of old (half p vs i) (done ++ (ids ++ rest)) same c))
  where
    done : List ℕ
    done = named_in (filter p (take i vs))

    rest : List ℕ
    rest = named_in (drop (i + 1) vs)

    less : filter p (take (i + 1) vs) ≡ filter p (take i vs)
    less = filter_step p vs i v false h e k ∙ append-nil (filter p (take i vs))

    same : half p vs i ≡ done ++ (ids ++ rest)
    same =
        ap (λ (l : List ℕ). done ++ l) (from_place vs i w h f)
        ∙ ap (λ (l : List ℕ). done ++ (l ++ rest)) (sym o)

-- an object that none names
abbrev pub times : ℕ → List ℕ → ℕ
times id ids = count_by (λ other. other == id) ids

any_step : (b a : Bool) (n m : ℕ) → n ≡ cond b 1 0 + m → n ≡ 0 → (m ≡ 0 → a ≡ false) → (b || a) ≡ false
any_step true a n m e h f = absurd (omega arith)
any_step false a n m e h f = f (omega arith)

not_any : (id : ℕ) (ids : List ℕ) → times id ids ≡ 0 → list_any (λ other. other == id) ids ≡ false
not_any id [] h = refl
not_any id (x ∷ xs) h = any_step (x == id) (list_any (λ other. other == id) xs) (times id (x ∷ xs)) (times id xs) (sum_by-cons (λ other. cond (other == id) 1 0) x xs) h (not_any id xs)

parts : (id : ℕ) (v : Invocation) (vs : List Invocation) → times id (named_in (v ∷ vs)) ≡ 0 → (times id v.objects ≡ 0) × (times id (named_in vs) ≡ 0)
parts id v vs h =
    let e : times id (named_in (v ∷ vs)) ≡ times id v.objects + times id (named_in vs) = sum_by-append (λ other. cond (other == id) 1 0) v.objects (named_in vs) in
    (omega arith, omega arith)

pub none_counted : (id : ℕ) (vs : List Invocation) → times id (named_in vs) ≡ 0 → count_by (names id) vs ≡ 0
none_counted id [] h = refl
none_counted id (v ∷ vs) h =
    let each = parts id v vs h in
    sum_by-cons (λ w. cond (names id w) 1 0) v vs
    ∙ ap₂ (λ (b : Bool) (n : ℕ). cond b 1 0 + n) (not_any id v.objects each.0) (none_counted id vs each.1)

keeps_step : (b : Bool) (v : Invocation) (keeps : Invocation → Bool) (vs ws : List Invocation) → b ≡ false → ws ≡ vs → cond (not b || keeps v) (v ∷ ws) ws ≡ v ∷ vs
keeps_step true v keeps vs ws e h = cc
keeps_step false v keeps vs ws e h = ap (λ (l : List Invocation). v ∷ l) h

pub all_stay : (id : ℕ) (keeps : Invocation → Bool) (vs : List Invocation) → times id (named_in vs) ≡ 0 → filter (stays id keeps) vs ≡ vs
all_stay id keeps [] h = refl
all_stay id keeps (v ∷ vs) h =
    let each = parts id v vs h in
    keeps_step (names id v) v keeps vs (filter (stays id keeps) vs) (not_any id v.objects each.0) (all_stay id keeps vs each.1)

pub unnamed : (counts : List ℕ) (id : ℕ) (vs ws : List Invocation) → vs ≡ ws → Counts counts (named_in vs) → (get_or counts id 1 == 0) ≡ true → times id (named_in ws) ≡ 0
unnamed counts id vs ws e h k = none_is_named counts (named_in ws) id (counts_of counts (named_in vs) (named_in ws) (ap (λ (l : List Invocation). named_in l) e) h) k

-- The counts of touched objects, one failure on, and the failures where none touched an object.
use Rattle.std.proofs.Common.{◌≡◌, ℕ, ◌+◌, ◌<◌, ◌≤◌, Bool, true, false, not, cond, ◌||◌, ◌==◌, List, [], ◌∷◌, ◌++◌, length, take, drop, get_or, filter, count_by, refl, sym, ap, subst, ◌∙◌, append_assoc, add-zero, arith}
use Rattle.std.specs.List.{list_any}
use Rattle.std.proofs.lemmas.List.{append-nil, drop_all, drop_more, get_or-drop, take_all}
use Rattle.std.proofs.lemmas.List.Elements.{filter_more}
use Rattle.std.proofs.lemmas.List.Filters.{FiltersInPlace}
use Rattle.std.proofs.lemmas.List.Sums.{sum_by-append, sum_by-cons}
use Rattle.bc_mean.specs.Serial.{Failed}
use Rattle.bc_tally.specs.Counts.{Counts}
use Rattle.bc_failed.specs.Records.{touches, leaves}
use Rattle.bc_failed.specs.Touched.{touched_in}

touched-append : (fs gs : List Failed) → touched_in (fs ++ gs) ≡ touched_in fs ++ touched_in gs
touched-append [] gs = refl
touched-append (f ∷ fs) gs =
    ap (λ (l : List ℕ). f.touched ++ l) (touched-append fs gs) ∙ sym (append_assoc f.touched (touched_in fs) (touched_in gs))

-- one failure more at the end
touched-one : (fs : List Failed) (f : Failed) → touched_in (fs ++ f ∷ []) ≡ touched_in fs ++ f.touched
touched-one fs f = touched-append fs (f ∷ []) ∙ ap (λ (l : List ℕ). touched_in fs ++ l) (append-nil f.touched)

-- the counts after a failure is added
pub counts_added : (old new : List ℕ) (fs gs : List Failed) (f : Failed) (ids : List ℕ) → Counts old (touched_in fs) → gs ≡ fs ++ f ∷ [] → ids ≡ f.touched → ((before after : List ℕ) → Counts old (before ++ after) → Counts new (before ++ (ids ++ after))) → Counts new (touched_in gs)
counts_added old new fs gs f ids h e same add =
    subst (λ (l : List ℕ). Counts new l)
    (ap (λ (l : List ℕ). touched_in fs ++ (l ++ [])) same ∙ sym (touched-append fs (f ∷ [])) ∙ ap touched_in (sym e))
    (add (touched_in fs) [] (subst (λ (l : List ℕ). Counts old l) (sym (append-nil (touched_in fs))) h))

-- those that are left of the first ones, and all behind them
abbrev pub in_turn : ℕ → List Failed → ℕ → List ℕ
in_turn id fs i = touched_in (filter (leaves id) (take i fs)) ++ touched_in (drop i fs)

-- the next one, which goes or is left
turn_of : (b : Bool) (gs : List Failed) (f : Failed) (after : List ℕ) → touched_in (gs ++ cond (not b) (f ∷ []) []) ++ after ≡ touched_in gs ++ cond b after (f.touched ++ after)
turn_of true gs f after = ap (λ (l : List Failed). touched_in l ++ after) (append-nil gs)
turn_of false gs f after = ap (λ (l : List ℕ). l ++ after) (touched-one gs f) ∙ append_assoc (touched_in gs) f.touched after

-- what the place of the next one holds
here_of : (fs gs : List Failed) (i : ℕ) (f : Failed) → drop i gs ≡ drop i fs → i < length fs → f ≡ get_or gs i f → get_or fs i f ≡ f
here_of fs gs i f e h k =
    sym (get_or-drop i fs 0 f ∙ ap (λ (n : ℕ). get_or fs n f) (add-zero i)) ∙ ap (λ (l : List Failed). get_or l 0 f) (sym e) ∙ get_or-drop i gs 0 f ∙ ap (λ (n : ℕ). get_or gs n f) (add-zero i) ∙ sym k

-- the counts after the next one is looked at
pub counts_next : (id : ℕ) (fs gs : List Failed) (k i : ℕ) (f : Failed) (old new : List ℕ) → FiltersInPlace (leaves id) fs gs k i → i < length fs → f ≡ get_or gs i f → Counts old (in_turn id fs i) → ((before after : List ℕ) → Counts old (before ++ (f.touched ++ after)) → Counts new (before ++ cond (touches id f) after (f.touched ++ after))) → Counts new (in_turn id fs (i + 1))
counts_next id fs gs k i f old new p h same counts step =
    let e : get_or fs i f ≡ f = here_of fs gs i f p.rest h same in
    let left : List Failed = filter (leaves id) (take i fs) in
    let after : List ℕ = touched_in (drop (i + 1) fs) in
    let here : touched_in (drop i fs) ≡ f.touched ++ after = ap touched_in (drop_more fs i f h ∙ ap (λ (g : Failed). g ∷ drop (i + 1) fs) e) in
    let more : filter (leaves id) (take (i + 1) fs) ≡ left ++ cond (leaves id f) (f ∷ []) [] = filter_more (leaves id) fs i f h ∙ ap (λ (g : Failed). left ++ cond (leaves id g) (g ∷ []) []) e in
    subst (λ (l : List ℕ). Counts new l) (sym (ap (λ (l : List Failed). touched_in l ++ after) more ∙ turn_of (touches id f) left f after))
    (step (touched_in left) after (subst (λ (l : List ℕ). Counts old (touched_in left ++ l)) here counts))

-- the counts after all are looked at
pub counts_all : (id : ℕ) (fs gs hs : List Failed) (i : ℕ) (counts : List ℕ) → Counts counts (in_turn id fs i) → length fs ≤ i → gs ≡ hs → hs ≡ filter (leaves id) fs → Counts counts (touched_in gs)
counts_all id fs gs hs i counts h k d e =
    subst (λ (l : List ℕ). Counts counts l)
    (ap (λ (l : List Failed). touched_in (filter (leaves id) l) ++ touched_in (drop i fs)) (take_all i fs k) ∙ ap (λ (l : List Failed). touched_in (filter (leaves id) fs) ++ touched_in l) (drop_all i fs k) ∙ append-nil (touched_in (filter (leaves id) fs)) ∙ ap touched_in (sym (d ∙ e)))
    h

-- where none touched the object
both_zero : {X : Type 0} (p : X → Bool) (b : Bool) (xs : List X) → cond b 1 0 + count_by p xs ≡ 0 → (b ≡ false) × (count_by p xs ≡ 0)
both_zero p true xs h = absurd (omega arith)
both_zero p false xs h = (refl, omega arith)

head_no : {X : Type 0} (p : X → Bool) (x : X) (xs : List X) → count_by p (x ∷ xs) ≡ 0 → (p x ≡ false) × (count_by p xs ≡ 0)
head_no {X = X} p x xs h = both_zero p (p x) xs (sym (sum_by-cons (λ (y : X). cond (p y) 1 0) x xs) ∙ h)

none_any : {X : Type 0} (p : X → Bool) (xs : List X) → count_by p xs ≡ 0 → list_any p xs ≡ false
none_any p [] h = refl
none_any {X = X} p (x ∷ xs) h =
    let e = head_no p x xs h in ap (λ (b : Bool). b || list_any p xs) e.0 ∙ none_any p xs e.1

pub none_found : {X : Type 0} (p : X → Bool) (xs : List X) → count_by p xs ≡ 0 → filter p xs ≡ []
none_found p [] h = refl
none_found {X = X} p (x ∷ xs) h =
    let e = head_no p x xs h in ap (λ (b : Bool). cond b (x ∷ filter p xs) (filter p xs)) e.0 ∙ none_found p xs e.1

pub none_leaves : (id : ℕ) (fs : List Failed) → count_by (touches id) fs ≡ 0 → filter (leaves id) fs ≡ fs
none_leaves id [] h = refl
none_leaves id (f ∷ fs) h =
    let e = head_no (touches id) f fs h in
    ap (λ (b : Bool). cond (not b) (f ∷ filter (leaves id) fs) (filter (leaves id) fs)) e.0 ∙ ap (λ (l : List Failed). f ∷ l) (none_leaves id fs e.1)

pub none_counted : (id : ℕ) (fs : List Failed) → count_by (λ other. other == id) (touched_in fs) ≡ 0 → count_by (touches id) fs ≡ 0
none_counted id [] h = refl
none_counted id (f ∷ fs) h =
    let both : count_by (λ (other : ℕ). other == id) f.touched + count_by (λ (other : ℕ). other == id) (touched_in fs) ≡ 0 = sym (sum_by-append (λ (other : ℕ). cond (other == id) 1 0) f.touched (touched_in fs)) ∙ h in
    let rest : count_by (touches id) fs ≡ 0 = none_counted id fs (omega arith) in
    sum_by-cons (λ (g : Failed). cond (touches id g) 1 0) f fs
    ∙ ap (λ (b : Bool). cond b 1 0 + count_by (touches id) fs) (none_any (λ (other : ℕ). other == id) f.touched (omega arith))
    ∙ omega arith

-- Lists that grow by those that pass a test.
use Rattle.std.proofs.Common.{◌≡◌, ℕ, ◌+◌, ◌<◌, ◌≤◌, inl, inr, Bool, true, false, cond, not, filter, ◌&&◌, ◌||◌, List, [], ◌∷◌, ◌++◌, length, take, refl, sym, ap, ap₂, subst, ◌∙◌, arith}
use Rattle.std.specs.List.{list_any}
use Rattle.std.proofs.lemmas.Bool.{cases_order}
use Rattle.std.proofs.lemmas.List.{length-take-le, take_all}
use Rattle.std.proofs.lemmas.List.Filters.{length-filter_both}
use Rattle.std.proofs.lemmas.List.Folds.{list_any-append}
use Rattle.bc_data.specs.declared.run.Invocation.{Invocation}
use Rattle.bc_failed.specs.Records.{touches}
use Rattle.bc_mean.specs.Serial.{Failed, has_failure, is_untouched, listed, same_invocation}
use Rattle.bc_data.specs.Typed.{TypedProgram}
use Rattle.bc_mean.specs.declared.plain.Plain.{Plain}
use Rattle.bc_mean.specs.Enabled.{all_enabled, is_enabled}
use Rattle.bc_mean.proofs.Enabled.{all_exact}
use Rattle.bc_mean.proofs.Orders.{listed_filter, same_true}
use Rattle.bc_params_search.specs.Tuples.{names}
use Rattle.bc_book_events.specs.Reshaped.{failures_dropped, has}
use Rattle.bc_book_events.proofs.CommitFound.{names_any_push}
use Rattle.bc_book_lists.specs.Search.{Adds}

one_more : (a t s gw gv : Bool) → (s ≡ true → gw ≡ gv) → ((a || (t && gw)) || (s && gv)) ≡ (a || ((t || (s || false)) && gw))
one_more a t s gw gv h = grind (arith, h)

pub none_yet : (test : Invocation → Bool) (old : List Invocation) → Adds (λ w. listed [] w && test w) old old
none_yet test old w = or_false (listed old w)
  where
    or_false : (a : Bool) → a ≡ (a || false)
    or_false a = grind arith

pub adds_more :
    (test : Invocation → Bool) (offered : List Invocation) (i : ℕ) (v : Invocation) (good : Bool) (old mid new : List Invocation)
    → Adds (λ w. listed (take i offered) w && test w) old mid
    → take (i + 1) offered ≡ take i offered ++ v ∷ []
    → good ≡ test v
    → Adds (λ w. same_invocation w v && good) mid new
    → Adds (λ w. listed (take (i + 1) offered) w && test w) old new
adds_more test offered i v good old mid new before one is step w =
    step w
    ∙ ap₂ (λ (a g : Bool). a || (same_invocation w v && g)) (before w) is
    ∙ (one_more (listed old w) (listed (take i offered) w) (same_invocation w v) (test w) (test v) (λ e. ap test (same_true w v e))
    ∙ ap (λ (b : Bool). listed old w || (b && test w)) (sym (ap (λ (l : List Invocation). listed l w) one ∙ list_any-append (same_invocation w) (take i offered) (v ∷ []))))

-- one of no tests holds
pub none_of_none : (xs : List ℕ) → list_any (λ x. false) xs ≡ false
none_of_none [] = refl
none_of_none (x ∷ xs) = none_of_none xs

-- a filter by either of two tests
any_filter : {X : Type 0} (q p : X → Bool) (xs : List X) → list_any q (filter p xs) ≡ list_any (λ x. p x && q x) xs
any_filter q p [] = refl
any_filter {X = X} q p (x ∷ xs) = at (p x) (any_filter q p xs)
  where
    at : (s : Bool) → list_any q (filter p xs) ≡ list_any (λ y. p y && q y) xs → list_any q (cond s (x ∷ filter p xs) (filter p xs)) ≡ ((s && q x) || list_any (λ y. p y && q y) xs)
    at true h = ap (λ (b : Bool). q x || b) h
    at false h = h

four_bools : (p a b q i j k : Bool) → p ≡ (a || b) → i ≡ (j || k) → ((p && q) || i) ≡ (((a && q) || j) || ((b && q) || k))
four_bools p a b q i j k h e = grind (arith, h, e)

either : {X : Type 0} (q p a b : X → Bool) (xs : List X) → ((x : X) → p x ≡ (a x || b x)) → list_any (λ x. p x && q x) xs ≡ (list_any (λ x. a x && q x) xs || list_any (λ x. b x && q x) xs)
either q p a b [] h = refl
either q p a b (x ∷ xs) h = four_bools (p x) (a x) (b x) (q x) (list_any (λ y. p y && q y) xs) (list_any (λ y. a y && q y) xs) (list_any (λ y. b y && q y) xs) (h x) (either q p a b xs h)

any_either : {X : Type 0} (q p a b : X → Bool) (xs : List X) → ((x : X) → p x ≡ (a x || b x)) → list_any q (filter p xs) ≡ (list_any q (filter a xs) || list_any q (filter b xs))
any_either q p a b xs h = any_filter q p xs ∙ (either q p a b xs h ∙ ap₂ (λ (s t : Bool). s || t) (sym (any_filter q a xs)) (sym (any_filter q b xs)))

-- objects that change one by one
twice_not : (a b c : Bool) → a ≡ (b || c) → not (not a) ≡ (not (not b) || c)
twice_not a b c h = grind (arith, h)

pub dropped_push : (ids : List ℕ) (id : ℕ) (fs : List Failed) (w : Invocation) → has_failure (failures_dropped (ids ++ id ∷ []) fs) w ≡ (has_failure (failures_dropped ids fs) w || has_failure (filter (touches id) fs) w)
dropped_push ids id fs w =
    any_either (λ f. same_invocation w f.v) (λ f. not (is_untouched (ids ++ id ∷ []) f)) (λ f. not (is_untouched ids f)) (touches id) fs
    (λ f. twice_not (list_any (has (ids ++ id ∷ [])) f.touched) (list_any (has ids) f.touched) (touches id f) (names_any_push ids id (record { task = 0; objects = f.touched; tags = [] })))

pub dropped_none : (fs : List Failed) (w : Invocation) → has_failure (failures_dropped [] fs) w ≡ false
dropped_none [] w = refl
dropped_none (f ∷ fs) w =
    ap (λ (b : Bool). list_any (λ (g : Failed). same_invocation w g.v) (cond (not (not b)) (f ∷ failures_dropped [] fs) (failures_dropped [] fs))) (none_of_none f.touched)
    ∙ dropped_none fs w

-- one group more of those that pass a test
group : (a d t e : Bool) → ((a || (d && e)) || (t && e)) ≡ (a || ((d || t) && e))
group a d t e = grind arith

pub adds_group :
    (test front one both : Invocation → Bool) (old mid new : List Invocation)
    → Adds (λ w. front w && test w) old mid
    → Adds (λ w. one w && test w) mid new
    → ((w : Invocation) → both w ≡ (front w || one w))
    → Adds (λ w. both w && test w) old new
adds_group test front one both old mid new before step is w =
    step w
    ∙ ap (λ (a : Bool). a || (one w && test w)) (before w)
    ∙ group (listed old w) (front w) (one w) (test w)
    ∙ ap (λ (b : Bool). listed old w || (b && test w)) (sym (is w))

pub adds_none : (test front : Invocation → Bool) (old : List Invocation) → ((w : Invocation) → front w ≡ false) → Adds (λ w. front w && test w) old old
adds_none test front old h w = let e = h w in or_none (listed old w) (front w) (test w) e
  where
    or_none : (a f t : Bool) → f ≡ false → a ≡ (a || (f && t))
    or_none a f t e = grind (arith, e)

-- all of a list that begins with so many
pub whole_take : {X : Type 0} (most : ℕ) (xs : List X) → length (take most xs) < most → take most xs ≡ xs
whole_take most xs low = elim (cases_order most (length xs)) [
  | inl e ↦ take_all most xs (omega (arith, e))
  | inr d ↦ elim d [
    | inl l ↦ absurd (omega (arith, low, length-take-le most xs (omega (arith, l))))
    | inr l ↦ take_all most xs (omega (arith, l))
  ]
]

take_within : {X : Type 0} (n : ℕ) (xs : List X) → length (take n xs) ≤ length xs
take_within n xs = elim (cases_order n (length xs)) [
  | inl e ↦ omega (arith, e, length-take-le n xs (omega (arith, e)))
  | inr d ↦ elim d [
    | inl l ↦ omega (arith, l, length-take-le n xs (omega (arith, l)))
    | inr l ↦ omega (arith, ap length (take_all n xs (omega (arith, l))))
  ]
]

-- those that name an object, by a search that was not broken off
pub naming : (P : TypedProgram) (S : Plain) (id most : ℕ) (offered : List Invocation) → offered ≡ take most (filter (names id) (all_enabled P S)) → length offered < most → (w : Invocation) → listed offered w ≡ (names id w && is_enabled P S w)
naming P S id most offered is low w =
    let all = all_enabled P S in
    let whole = whole_take most (filter (names id) all) (subst (λ (l : List Invocation). length l < most) is low) in
    ap (λ (l : List Invocation). listed l w) (is ∙ whole)
    ∙ listed_filter (names id) all w
    ∙ ap (λ (b : Bool). b && names id w) (all_exact P S w)
    ∙ swap (is_enabled P S w) (names id w)
  where
    swap : (a b : Bool) → (a && b) ≡ (b && a)
    swap a b = grind arith

pub many_enabled : (P : TypedProgram) (S : Plain) (id most : ℕ) (offered : List Invocation) → offered ≡ take most (filter (names id) (all_enabled P S)) → length offered ≤ length (all_enabled P S)
many_enabled P S id most offered is =
    let all = all_enabled P S in
    let one : length (take most (filter (names id) all)) ≤ length (filter (names id) all) = take_within most (filter (names id) all) in
    let two : length (filter (names id) all) + length (filter (λ v. not (names id v)) all) ≡ length all = length-filter_both (names id) (λ v. not (names id v)) (λ v. refl) all in
    omega (arith, ap length is, one, two)

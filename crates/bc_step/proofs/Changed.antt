-- What an invocation changes: the objects whose private copies differ from their bodies, ascending.
use Rattle.std.proofs.Common.{◌≡◌, ℕ, zero, suc, ◌+◌, ◌<◌, ◌≤◌, Bool, true, false, ◌==◌, ◌||◌, if◌then◌else◌, List, [], ◌∷◌, ◌++◌, length, take, get_or, refl, sym, ap, ap₂, subst, ◌∙◌, Option, Some, None, arith}
use Rattle.std.specs.Prelude.{IfOk, Result, Ok, Err, option_map, option_and_then, option_to_list, slice_get}
use Rattle.std.specs.Cmp.Lexicographic.{pointwise}
use Rattle.std.specs.List.{AllPairs, IsDistinct, cons_option, filter_map, list_any, range_with_len}
use Rattle.std.specs.List.Sorted.{IsPermutation, IsSorted}
use Rattle.std.specs.Ordering.{nat_cmp}
use Rattle.std.proofs.lemmas.Bool.{and_from, cond-true, eq-eqb, eqb-true, false≢true, or_from, or_left, or_right}
use Rattle.std.proofs.lemmas.Bool.Decides.{nat_tests}
use Rattle.std.proofs.lemmas.Cmp.{int_eq_equiv}
use Rattle.std.proofs.lemmas.List.{take_more}
use Rattle.std.proofs.lemmas.List.Elements.{filter_map-append}
use Rattle.std.proofs.lemmas.List.Kept.{AllPairs-from_increasing}
use Rattle.std.proofs.lemmas.List.Sorted.{IsNonDecreasingBy-from_sort, list_any-IsPermutation}
use Rattle.std.proofs.lemmas.Map.Keys.{IsDistinct-IsPermutation, IsStrictlyIncreasing-from_distinct}
use Rattle.std.proofs.lemmas.Option.{slice_get_within}
use Rattle.bc_data.specs.declared.run.Body.{Body}
use Rattle.bc_data.specs.declared.run.Kind.{Kind}
use Rattle.bc_data.specs.declared.run.Kind.TheVariants as kind
use Rattle.bc_data.specs.declared.run.TagRef.{TagRef}
use Rattle.bc_data.specs.declared.run.TagRef.TheVariants as tag
use Rattle.bc_data.specs.declared.run.Value.{Value}
use Rattle.bc_data.specs.declared.run.Value.TheVariants as value
use Rattle.bc_data.specs.declared.run.Written.{Written}
use Rattle.bc_mean.specs.declared.plain.Plain.{Plain}
use Rattle.bc_mean.specs.Enabled.{are_different}
use Rattle.bc_mean.specs.Values.{same_tag, same_value}
use Rattle.bc_mean.specs.Work.{Work, newest}
use Rattle.bc_mean.specs.Changes.{changes_between, same_body, same_kind, written_of}
use Rattle.bc_code.specs.Given.{given_look}
use Rattle.bc_step.specs.Area.{AgreesWith, Held, copies_of, given_of}
use Rattle.bc_step.specs.declared.held.Given.{Given}
use Rattle.bc_step.specs.Held.{held_of, latest, look_in, written_at, written_copy, written_one}
use Rattle.bc_step.proofs.Holds.{given_held, latest_in, newest_held}
use Rattle.bc_step.proofs.Lookups.{any_flip, flip, not_found}

-- A body is the same as itself.

value_itself : (x : Value) → same_value x x ≡ true
value_itself (value.Int n) = int_eq_equiv.refl n
value_itself (value.Bool true) = refl
value_itself (value.Bool false) = refl
value_itself value.Null = refl
value_itself (value.Old n) = eq-eqb n n refl
value_itself (value.New n) = eq-eqb n n refl

tag_itself : (t : TagRef) → same_tag t t ≡ true
tag_itself (tag.Old n) = eq-eqb n n refl
tag_itself (tag.New n) = eq-eqb n n refl

kind_itself : (k : Kind) → same_kind k k ≡ true
kind_itself (kind.Class c) = eq-eqb c c refl
kind_itself kind.Ints = refl
kind_itself kind.Bools = refl
kind_itself (kind.Objects c) = eq-eqb c c refl

list_itself : {X : Type 0} (E : X → X → Bool) → ((x : X) → E x x ≡ true) → (xs : List X) → pointwise E xs xs ≡ true
list_itself E h [] = refl
list_itself E h (x ∷ xs) = and_from (E x x) (pointwise E xs xs) (h x) (list_itself E h xs)

body_itself : (b : Body) → same_body b b ≡ true
body_itself b =
    let k = kind_itself b.kind in
    let cs = list_itself same_value value_itself b.cells in
    let f : (b.flags == b.flags) ≡ true = eq-eqb b.flags b.flags refl in
    let ts = list_itself same_tag tag_itself b.tags in
    grind (arith, k, cs, f, ts)

-- Changes tell only the newest copies of two works apart.

written_alike : (w v : Work) (id : ℕ) (o : Option Body) → ((id : ℕ) (b : Body) → newest w.changed id b ≡ newest v.changed id b) → written_of w id o ≡ written_of v id o
written_alike w v id None n = refl
written_alike w v id (Some b) n = ap (λ (c : Body). if same_body b c then None else Some (record { id = id; body = c })) (n id b)

filter_alike : {X Y : Type 0} (f g : X → Option Y) (xs : List X) → ((x : X) → f x ≡ g x) → filter_map f xs ≡ filter_map g xs
filter_alike f g [] h = refl
filter_alike f g (x ∷ xs) h = ap₂ cons_option (h x) (filter_alike f g xs h)

pub changes_alike : (S : Plain) (w v : Work) → ((id : ℕ) (b : Body) → newest w.changed id b ≡ newest v.changed id b) → w.made ≡ v.made → w.instances ≡ v.instances → w.text ≡ v.text → changes_between S w ≡ changes_between S v
changes_alike S w v n made instances text =
    let bodies = filter_alike (λ id. written_of w id (slice_get S.bodies id)) (λ id. written_of v id (slice_get S.bodies id)) (range_with_len 0 (length S.bodies)) (λ id. written_alike w v id (slice_get S.bodies id) n) in
    λ i. record { bodies = bodies i; made = made i; tags = instances i; text = text i }

-- Numbers that rise, from this one on.

abbrev pub Rises : ℕ → List ℕ → Type 0
Rises a [] = Unit {0}
Rises a (x ∷ xs) = (a ≤ x) × Rises (x + 1) xs

rises_from : (a x : ℕ) (xs : List ℕ) → a ≤ x → AllPairs (λ y z. y < z) (x ∷ xs) → Rises a (x ∷ xs)
rises_from a x [] le h = (le, tt)
rises_from a x (y ∷ ys) le h =
    let next : x < y = h 0 1 0 (omega arith) (omega arith) in
    (le, rises_from (x + 1) y ys (omega arith) (λ i j d p q. h (suc i) (suc j) d (omega arith) (omega (arith, q))))

pub rises : (xs : List ℕ) → AllPairs (λ y z. y < z) xs → Rises 0 xs
rises [] h = tt
rises (x ∷ xs) h = rises_from 0 x xs (omega arith) h

not_below : (a b : ℕ) (xs : List ℕ) → a < b → Rises b xs → list_any (λ k. k == a) xs ≡ false
not_below a b [] lt r = refl
not_below a b (x ∷ xs) lt r =
    or_from (x == a) (list_any (λ k. k == a) xs) (grind (arith, nat_tests, r.0)) (not_below a (x + 1) xs (omega (arith, r.0)) r.1)

-- what a function gives of a range, where it gives nothing but of some numbers in it that rise
pub kept_range : {X : Type 0} (f : ℕ → Option X) (n a : ℕ) (ids : List ℕ) → Rises a ids → ((id : ℕ) → list_any (λ k. k == id) ids ≡ true → id < a + n) → ((id : ℕ) → a ≤ id → list_any (λ k. k == id) ids ≡ false → f id ≡ None) → filter_map f (range_with_len a n) ≡ filter_map f ids
kept_range f zero a [] r below none = refl
kept_range f zero a (x ∷ xs) r below none =
    let h : x < a + 0 = below x (or_left (x == x) (list_any (λ k. k == x) xs) (eq-eqb x x refl)) in
    absurd (omega (arith, h, r.0))
kept_range f (suc n) a [] r below none =
    ap (λ o. cons_option o (filter_map f (range_with_len (a + 1) n))) (none a (omega arith) refl)
    ∙ kept_range f n (a + 1) [] tt (λ id h. absurd (false≢true h)) (λ id l h. none id (omega arith) refl)
kept_range {X} f (suc n) a (x ∷ xs) r below none = by (kept_range f n (a + 1)) (x == a) refl
  where
    by : ((ys : List ℕ) → Rises (a + 1) ys → ((id : ℕ) → list_any (λ k. k == id) ys ≡ true → id < (a + 1) + n) → ((id : ℕ) → a + 1 ≤ id → list_any (λ k. k == id) ys ≡ false → f id ≡ None) → filter_map f (range_with_len (a + 1) n) ≡ filter_map f ys) → (b : Bool) → (x == a) ≡ b → filter_map f (range_with_len a (suc n)) ≡ filter_map f (x ∷ xs)
    by more true e =
        let same : x ≡ a = eqb-true x a e in
        let from : Rises (a + 1) xs = subst (λ (y : ℕ). Rises (y + 1) xs) same r.1 in
        let rest = more xs from
        (λ id h. let l : id < a + suc n = below id (or_right (x == id) (list_any (λ k. k == id) xs) h) in omega (arith, l))
        (λ id l h. none id (omega arith) (or_from (x == id) (list_any (λ k. k == id) xs) (grind (arith, nat_tests, same, l)) h)) in
        ap (λ o. cons_option o (filter_map f (range_with_len (a + 1) n))) (ap f (sym same)) ∙ ap (cons_option (f x)) rest
    by more false e =
        let other : a < x = grind (arith, nat_tests, e, r.0) in
        let absent : f a ≡ None = none a (omega arith) (or_from (x == a) (list_any (λ k. k == a) xs) e (not_below a (x + 1) xs (omega (arith, other)) r.1)) in
        let rest = more (x ∷ xs) (omega (arith, other), r.1)
        (λ id h. let l : id < a + suc n = below id h in omega (arith, l))
        (λ id l h. none id (omega arith) h) in
        ap (λ o. cons_option o (filter_map f (range_with_len (a + 1) n))) absent ∙ rest

-- The numbers of a set, sorted.

pub sorted_rises : (keys xs : List ℕ) → IsDistinct (λ x y. x == y) keys → IsPermutation keys xs → IsSorted nat_cmp xs → Rises 0 xs
sorted_rises keys xs d p s =
    rises xs (AllPairs-from_increasing xs (IsStrictlyIncreasing-from_distinct xs (IsNonDecreasingBy-from_sort (λ x. x) xs s) (IsDistinct-IsPermutation (λ x y. x == y) (λ x y. sym (flip x y (x == y) refl)) keys xs p d)))

-- What was written, in a store that has the bodies that were given.

agrees_at : (S : Plain) (ws : List Written) (id : ℕ) (b : Body) → AgreesWith S ws → given_look ws id ≡ Some b → slice_get S.bodies id ≡ Some b
agrees_at S [] id b a e = absurd (cc)
agrees_at S (w ∷ ws) id b a e = by (agrees_at S ws id b (λ k d h. a (suc k) d (omega arith))) (w.id == id) refl
  where
    by : (given_look ws id ≡ Some b → slice_get S.bodies id ≡ Some b) → (r : Bool) → (w.id == id) ≡ r → slice_get S.bodies id ≡ Some b
    by more true p =
        let here : slice_get S.bodies w.id ≡ Some w.body = a 0 w (omega arith) in
        ap (λ (n : ℕ). slice_get S.bodies n) (sym (eqb-true w.id id p)) ∙ here ∙ ap (λ (s : Bool). if s then Some w.body else given_look ws id) (sym p) ∙ e
    by more false p = more (ap (λ (s : Bool). if s then Some w.body else given_look ws id) (sym p) ∙ e)

written_unchanged : (id : ℕ) (b c : Body) → c ≡ b → ◌≡◌ {A = Option Written} (if same_body b c then None else Some (record { id = id; body = c })) None
written_unchanged id b c e =
    cond-true (same_body b c) None (Some (record { id = id; body = c })) (ap (same_body b) e ∙ body_itself b)

written_as : (id : ℕ) (b c : Body) (o : Option Body) → c ≡ latest o b → (if same_body b c then None else Some (record { id = id; body = c })) ≡ written_copy id b o
written_as id b c None e = written_unchanged id b c e
written_as id b c (Some d) e = ap (λ (x : Body). if same_body b x then None else Some (record { id = id; body = x })) e

-- the store, the work, and what was given
module _ (S : Plain) (w : Work) (ids : List ℕ) (gs : List Given) (d : are_different ids ≡ true) (agrees : AgreesWith S (given_of (held_of ids gs))) (copies : w.changed ≡ copies_of (held_of ids gs)) where
  newest_is : (id : ℕ) (b : Body) (o : Option Given) → look_in ids gs id ≡ o → newest w.changed id b ≡ latest_in o b
  newest_is id b o e = ap (λ (cs : List Written). newest cs id b) copies ∙ newest_held id ids gs b d ∙ ap (λ (p : Option Given). latest_in p b) e

  body_is : (id : ℕ) (g : Given) → look_in ids gs id ≡ Some g → slice_get S.bodies id ≡ Some g.body
  body_is id g e = agrees_at S (given_of (held_of ids gs)) id g.body agrees (given_held id ids gs ∙ ap (option_map (λ (h : Given). h.body)) e)

  not_given : (id : ℕ) (o : Option Body) → look_in ids gs id ≡ None → written_of w id o ≡ None
  not_given id None e = refl
  not_given id (Some b) e = written_unchanged id b (newest w.changed id b) (newest_is id b None e)

  written_like : (id : ℕ) (o : Option Given) → look_in ids gs id ≡ o → written_of w id (slice_get S.bodies id) ≡ option_and_then (written_one id) o
  written_like id None e = not_given id (slice_get S.bodies id) e
  written_like id (Some g) e =
      ap (written_of w id) (body_is id g e) ∙ written_as id g.body (newest w.changed id g.body) g.copy (newest_is id g.body (Some g) e)

  within_store : (id : ℕ) (o : Option Given) → look_in ids gs id ≡ o → (look_in ids gs id ≡ None → ⊥) → id < length S.bodies
  within_store id None e there = absurd (there e)
  within_store id (Some g) e there = slice_get_within S.bodies id g.body (body_is id g e)

  pub all_written : (xs : List ℕ) (l : List Written) → Rises 0 xs → ((id : ℕ) → list_any (λ k. k == id) xs ≡ true → look_in ids gs id ≡ None → ⊥) → ((id : ℕ) → list_any (λ k. k == id) xs ≡ false → look_in ids gs id ≡ None) → l ≡ filter_map (written_at ids gs) xs → l ≡ filter_map (λ id. written_of w id (slice_get S.bodies id)) (range_with_len 0 (length S.bodies))
  all_written xs l r there absent e =
      let f : ℕ → Option Written = λ id. written_of w id (slice_get S.bodies id) in
      let kept : filter_map f (range_with_len 0 (length S.bodies)) ≡ filter_map f xs =
      kept_range f (length S.bodies) 0 xs r
      (λ id h. let l : id < length S.bodies = within_store id (look_in ids gs id) refl (there id h) in omega (arith, l))
      (λ id l h. not_given id (slice_get S.bodies id) (absent id h)) in
      e ∙ sym (filter_alike f (written_at ids gs) xs (λ id. written_like id (look_in ids gs id) refl)) ∙ sym kept

-- those that are in a list with the numbers of a set were given
pub is_there : (ids : List ℕ) (gs : List Given) (id : ℕ) → length ids ≡ length gs → list_any (λ k. k == id) ids ≡ true → look_in ids gs id ≡ None → ⊥
is_there [] gs id len h e = false≢true h
is_there (k ∷ ks) [] id len h e = absurd (omega (arith, len))
is_there (k ∷ ks) (g ∷ gs) id len h e = by (is_there ks gs id (omega (arith, len))) (k == id) refl
  where
    some_none : (g : Given) → ◌≡◌ {A = Option Given} (Some g) None → ⊥
    some_none g e = cc

    by : (list_any (λ k. k == id) ks ≡ true → look_in ks gs id ≡ None → ⊥) → (r : Bool) → (k == id) ≡ r → ⊥
    by more true p = some_none g (ap (λ (s : Bool). if s then Some g else look_in ks gs id) (sym p) ∙ e)
    by more false p =
        more (ap (λ (s : Bool). s || list_any (λ k. k == id) ks) (sym p) ∙ h)
        (ap (λ (s : Bool). if s then Some g else look_in ks gs id) (sym p) ∙ e)

-- one number more of those that are looked through
one_alone : {A : Type 0} (f : ℕ → Option A) (i : ℕ) (o : Option A) → o ≡ f i → filter_map f (i ∷ []) ≡ option_to_list o
one_alone f i None e = simp (sym e)
one_alone f i (Some x) e = simp (sym e)

pub looked_more : {A : Type 0} (f : ℕ → Option A) (xs : List ℕ) (i : ℕ) (o : Option A) (all next : List A) → i < length xs → o ≡ f (get_or xs i 0) → all ≡ filter_map f (take i xs) → next ≡ all ++ option_to_list o → next ≡ filter_map f (take (i + 1) xs)
looked_more f xs i o all next within e before added =
    added ∙ ap₂ (λ a b. a ++ b) before (sym (one_alone f (get_or xs i 0) o e))
    ∙ sym (filter_map-append f (take i xs) (get_or xs i 0 ∷ [])) ∙ ap (filter_map f) (sym (take_more xs i 0 within))

-- what follows of the value where there was memory
pub if_ok : {X E : Type 0} (r : Result X E) (P Q : X → Type 0) → IfOk r P → ((x : X) → P x → Q x) → IfOk r Q
if_ok (Ok x) P Q h f = f x h
if_ok (Err e) P Q h f = tt

pub written_changes : (S : Plain) (w : Work) (ids : List ℕ) (gs : List Given) (held : List Held) (numbers sorted xs : List ℕ) (l : List Written) → are_different ids ≡ true → length ids ≡ length gs → held_of ids gs ≡ held → AgreesWith S (given_of held) → w.changed ≡ copies_of held → IsDistinct (λ x y. x == y) ids → numbers ≡ ids → IsPermutation numbers sorted → IsSorted nat_cmp sorted → xs ≡ sorted → l ≡ filter_map (written_at ids gs) xs → l ≡ filter_map (λ id. written_of w id (slice_get S.bodies id)) (range_with_len 0 (length S.bodies))
written_changes S w ids gs held numbers sorted xs l different len view agrees copies distinct all moved ascending same e =
    let order : IsPermutation ids sorted = subst (λ (ns : List ℕ). IsPermutation ns sorted) all moved in
    let among : (id : ℕ) → list_any (λ k. k == id) ids ≡ list_any (λ k. k == id) sorted = λ id. list_any-IsPermutation (λ k. k == id) ids sorted order in
    all_written S w ids gs different
    (subst (λ (hs : List Held). AgreesWith S (given_of hs)) (sym view) agrees)
    (copies ∙ ap copies_of (sym view))
    sorted l (sorted_rises ids sorted distinct order ascending)
    (λ id h. is_there ids gs id len (among id ∙ h))
    (λ id h. not_found id ids gs (any_flip id ids ∙ among id ∙ h))
    (e ∙ ap (filter_map (written_at ids gs)) same)

-- The changes of a run in two stores that agree on the objects that it touched.
use Rattle.std.proofs.Common.{◌≡◌, ℕ, zero, suc, ◌+◌, ◌≤◌, Bool, true, false, cond, ◌==◌, List, [], ◌∷◌, length, refl, sym, ap, ◌∙◌, subst, arith}
use Rattle.std.specs.Prelude.{slice_get, Option, Some, None}
use Rattle.std.specs.Cmp.Lexicographic.{pointwise}
use Rattle.std.specs.List.{AllByRecursion, cons_option, filter_map, range_with_len}
use Rattle.std.proofs.lemmas.Bool.{and_from, cond-true, eq-eqb, eqb-true, false≢true}
use Rattle.std.proofs.lemmas.Cmp.{int_eq_equiv}
use Rattle.std.proofs.lemmas.Option.{same_Some, slice_get_past}
use Rattle.bc_data.specs.declared.run.Body.{Body}
use Rattle.bc_data.specs.declared.run.Kind.{Kind}
use Rattle.bc_data.specs.declared.run.Kind.TheVariants as kind
use Rattle.bc_data.specs.declared.run.TagRef.{TagRef}
use Rattle.bc_data.specs.declared.run.TagRef.TheVariants as tag
use Rattle.bc_data.specs.declared.run.Value.{Value}
use Rattle.bc_data.specs.declared.run.Value.TheVariants as value
use Rattle.bc_data.specs.declared.run.Written.{Written}
use Rattle.bc_mean.specs.declared.plain.Plain.{Plain}
use Rattle.bc_mean.specs.Values.{same_tag, same_value}
use Rattle.bc_mean.specs.Work.{Work, newest}
use Rattle.bc_mean.specs.Changes.{changes_between, same_body, same_kind, written_of}
use Rattle.bc_law_locality.specs.Growth.{AreWithin, has}

value_itself : (x : Value) → same_value x x ≡ true
value_itself (value.Int n) = int_eq_equiv.refl n
value_itself (value.Bool true) = refl
value_itself (value.Bool false) = refl
value_itself value.Null = refl
value_itself (value.Old n) = eq-eqb n n refl
value_itself (value.New n) = eq-eqb n n refl

tag_itself : (t : TagRef) → same_tag t t ≡ true
tag_itself (tag.Old n) = eq-eqb n n refl
tag_itself (tag.New n) = eq-eqb n n refl

kind_itself : (k : Kind) → same_kind k k ≡ true
kind_itself (kind.Class c) = eq-eqb c c refl
kind_itself kind.Ints = refl
kind_itself kind.Bools = refl
kind_itself (kind.Objects c) = eq-eqb c c refl

list_itself : {X : Type 0} (E : X → X → Bool) → ((x : X) → E x x ≡ true) → (xs : List X) → pointwise E xs xs ≡ true
list_itself E h [] = refl
list_itself E h (x ∷ xs) = and_from (E x x) (pointwise E xs xs) (h x) (list_itself E h xs)

body_itself : (b : Body) → same_body b b ≡ true
body_itself b =
    let k = kind_itself b.kind in
    let cs = list_itself same_value value_itself b.cells in
    let f : (b.flags == b.flags) ≡ true = eq-eqb b.flags b.flags refl in
    let ts = list_itself same_tag tag_itself b.tags in
    grind (arith, k, cs, f, ts)

-- an object that isn't touched has no copy
newest_untouched : (changed : List Written) (touched : List ℕ) (id : ℕ) (b : Body) → AreWithin changed touched → has touched id ≡ false → newest changed id b ≡ b
newest_untouched [] touched id b a h = refl
newest_untouched (c ∷ cs) touched id b a h = at (c.id == id) refl (newest_untouched cs touched id b a.1 h)
  where
    at : (same : Bool) → (c.id == id) ≡ same → newest cs id b ≡ b → cond same c.body (newest cs id b) ≡ b
    at true e k = absurd (false≢true (sym h ∙ subst (λ (n : ℕ). has touched n ≡ true) (eqb-true c.id id e) a.0))
    at false e k = k

-- and is not among those written
written_untouched : (w : Work) (id : ℕ) (o : Option Body) → AreWithin w.changed w.touched → has w.touched id ≡ false → written_of w id o ≡ None
written_untouched w id None a h = refl
written_untouched w id (Some b) a h =
    let n = newest_untouched w.changed w.touched id b a h in
    let same : same_body b (newest w.changed id b) ≡ true = subst (λ (c : Body). same_body b c ≡ true) (sym n) (body_itself b) in
    cond-true (same_body b (newest w.changed id b)) None (Some (record { id = id; body = newest w.changed id b })) same

-- a list of what two functions give of two ranges, where they give alike, and nothing past either range
alike_ranges : {X : Type 0} (f g : ℕ → Option X) → ((id : ℕ) → f id ≡ g id) → (a n m : ℕ) → ((id : ℕ) → a + n ≤ id → f id ≡ None) → ((id : ℕ) → a + m ≤ id → g id ≡ None) → filter_map f (range_with_len a n) ≡ filter_map g (range_with_len a m)
alike_ranges f g h a zero zero p q = refl
alike_ranges {X = X} f g h a zero (suc m) p q =
    let rest = alike_ranges f g h (a + 1) zero m (λ id l. p id (omega (arith, l))) (λ id l. q id (omega (arith, l))) in
    let none : g a ≡ None = sym (h a) ∙ p a (omega arith) in
    rest ∙ ap (λ (o : Option X). cons_option o (filter_map g (range_with_len (a + 1) m))) (sym none)
alike_ranges {X = X} f g h a (suc n) zero p q =
    let rest = alike_ranges f g h (a + 1) n zero (λ id l. p id (omega (arith, l))) (λ id l. q id (omega (arith, l))) in
    let none : f a ≡ None = h a ∙ q a (omega arith) in
    ap (λ (o : Option X). cons_option o (filter_map f (range_with_len (a + 1) n))) none ∙ rest
alike_ranges {X = X} f g h a (suc n) (suc m) p q =
    let rest = alike_ranges f g h (a + 1) n m (λ id l. p id (omega (arith, l))) (λ id l. q id (omega (arith, l))) in
    ap (λ (o : Option X). cons_option o (filter_map f (range_with_len (a + 1) n))) (h a)
    ∙ ap (λ (xs : List X). cons_option (g a) xs) rest

written_alike : (S T : Plain) (w : Work) → AreWithin w.changed w.touched → ((id : ℕ) → has w.touched id ≡ true → slice_get S.bodies id ≡ slice_get T.bodies id) → (id : ℕ) → written_of w id (slice_get S.bodies id) ≡ written_of w id (slice_get T.bodies id)
written_alike S T w a h id = at (has w.touched id) refl
  where
    at : (b : Bool) → has w.touched id ≡ b → written_of w id (slice_get S.bodies id) ≡ written_of w id (slice_get T.bodies id)
    at true e = ap (written_of w id) (h id e)
    at false e = written_untouched w id (slice_get S.bodies id) a e ∙ sym (written_untouched w id (slice_get T.bodies id) a e)

written_past : (S : Plain) (w : Work) (id : ℕ) → length S.bodies ≤ id → written_of w id (slice_get S.bodies id) ≡ None
written_past S w id l = ap (written_of w id) (slice_get_past S.bodies id l)

pub changes_alike : (S T : Plain) (w : Work) → AreWithin w.changed w.touched → ((id : ℕ) → has w.touched id ≡ true → slice_get S.bodies id ≡ slice_get T.bodies id) → changes_between S w ≡ changes_between T w
changes_alike S T w a h =
    ap (λ (bs : List Written). record { bodies = bs; made = w.made; tags = w.instances; text = w.text })
    (alike_ranges (λ id. written_of w id (slice_get S.bodies id)) (λ id. written_of w id (slice_get T.bodies id)) (written_alike S T w a h) 0 (length S.bodies) (length T.bodies)
    (λ id l. written_past S w id (omega (arith, l))) (λ id l. written_past T w id (omega (arith, l))))

each_given : {X Y : Type 0} (P : Y → Type 0) (f : X → Option Y) → ((x : X) (y : Y) → f x ≡ Some y → P y) → (xs : List X) → AllByRecursion P (filter_map f xs)
each_given P f h [] = tt
each_given {Y = Y} P f h (x ∷ xs) = at (f x) (h x) (each_given P f h xs)
  where
    at : (o : Option Y) → ((y : Y) → o ≡ Some y → P y) → AllByRecursion P (filter_map f xs) → AllByRecursion P (cons_option o (filter_map f xs))
    at None k later = later
    at (Some y) k later = (k y refl, later)

given_number : (id : ℕ) (b : Body) (c : Written) (same : Bool) → cond same None (Some (record { id = id; body = b })) ≡ Some c → id ≡ c.id
given_number id b c true e = absurd (cc)
given_number id b c false e = ap (λ (d : Written). d.id) (same_Some (record { id = id; body = b }) c e)

written_touched : (w : Work) (id : ℕ) (o : Option Body) (c : Written) → AreWithin w.changed w.touched → written_of w id o ≡ Some c → has w.touched c.id ≡ true
written_touched w id o c a e = at (has w.touched id) refl o e
  where
    at : (t : Bool) → has w.touched id ≡ t → (o : Option Body) → written_of w id o ≡ Some c → has w.touched c.id ≡ true
    at true h None e = absurd (cc)
    at true h (Some b) e = subst (λ (n : ℕ). has w.touched n ≡ true) (given_number id (newest w.changed id b) c (same_body b (newest w.changed id b)) e) h
    at false h o e = let n = written_untouched w id o a h in absurd (cc (n, e))

pub changes_touched : (S : Plain) (w : Work) → AreWithin w.changed w.touched → AllByRecursion (λ b. has w.touched b.id ≡ true) (changes_between S w).bodies
changes_touched S w a =
    each_given (λ (b : Written). has w.touched b.id ≡ true) (λ id. written_of w id (slice_get S.bodies id)) (λ id c e. written_touched w id (slice_get S.bodies id) c a e) (range_with_len 0 (length S.bodies))

-- What a commit leaves as it was.
use Rattle.std.proofs.Common.{◌≡◌, ℕ, zero, suc, ◌<◌, inl, inr, Bool, true, false, not, cond, ◌&&◌, ◌==◌, List, [], ◌∷◌, map, length, length-append, filter, get_or, Option, Some, None, refl, sym, ap, ◌∙◌, subst, arith}
use Rattle.std.specs.Prelude.{All, slice_get}
use Rattle.std.specs.Cmp.Lexicographic.{pointwise}
use Rattle.std.specs.List.{AllByRecursion, list_any, range_with_len}
use Rattle.std.proofs.lemmas.Bool.{and_parts, cond_both, eqb-true, false_from_ne_true, false≢true, not-false, not-true, or_cases, or_left, or_right}
use Rattle.std.proofs.lemmas.Bool.Decides.{Decides-int_eq}
use Rattle.std.proofs.lemmas.Option.{none-some, slice_get-get_or, slice_get_within}
use Rattle.bc_data.specs.Typed.{TypedProgram}
use Rattle.bc_data.specs.declared.run.Body.{Body}
use Rattle.bc_data.specs.declared.run.Changes.{Changes}
use Rattle.bc_data.specs.declared.run.Kind.{Kind}
use Rattle.bc_data.specs.declared.run.Kind.TheVariants as kind
use Rattle.bc_data.specs.declared.run.TagRef.{TagRef}
use Rattle.bc_data.specs.declared.run.TagRef.TheVariants as tag
use Rattle.bc_data.specs.declared.run.Value.{Value}
use Rattle.bc_data.specs.declared.run.Value.TheVariants as value
use Rattle.bc_mean.specs.declared.plain.Plain.{Plain}
use Rattle.bc_mean.specs.Changes.{apply_changes, body_in, changed_objects, put_bodies, same_body, same_kind}
use Rattle.bc_mean.specs.Enabled.{IsEnabled}
use Rattle.bc_mean.specs.Serial.{Failed, is_untouched}
use Rattle.bc_mean.specs.Values.{same_tag, same_value}
use Rattle.bc_mean.proofs.Enabled.{named_alone}
use Rattle.bc_book_events.specs.Reshaped.{has}
use Rattle.bc_book_events.specs.Untouched.{UntouchedKeeps}
use Rattle.bc_book_events.proofs.Appended.{get_front, has_range, put_length}
use Rattle.bc_book_events.proofs.Members.{none_of}
use Rattle.bc_book_events.proofs.Reshaped.{enabled_of}
use Rattle.bc_book_events.proofs.Named.{taken_there}

value_same : (x y : Value) → same_value x y ≡ true → x ≡ y
value_same (value.Int m) (value.Int n) h = ap value.Int ((Decides-int_eq m n).0 h)
value_same (value.Bool true) (value.Bool true) h = refl
value_same (value.Bool false) (value.Bool false) h = refl
value_same value.Null value.Null h = refl
value_same (value.Old m) (value.Old n) h = ap value.Old (eqb-true m n h)
value_same (value.New m) (value.New n) h = ap value.New (eqb-true m n h)
value_same _ _ h = absurd (false≢true h)

tag_same : (s t : TagRef) → same_tag s t ≡ true → s ≡ t
tag_same (tag.Old m) (tag.Old n) h = ap tag.Old (eqb-true m n h)
tag_same (tag.New m) (tag.New n) h = ap tag.New (eqb-true m n h)
tag_same _ _ h = absurd (false≢true h)

kind_same : (k l : Kind) → same_kind k l ≡ true → k ≡ l
kind_same (kind.Class c) (kind.Class d) h = ap kind.Class (eqb-true c d h)
kind_same kind.Ints kind.Ints h = refl
kind_same kind.Bools kind.Bools h = refl
kind_same (kind.Objects c) (kind.Objects d) h = ap kind.Objects (eqb-true c d h)
kind_same _ _ h = absurd (false≢true h)

list_same : {X : Type 0} (E : X → X → Bool) → ((x y : X) → E x y ≡ true → x ≡ y) → (xs ys : List X) → pointwise E xs ys ≡ true → xs ≡ ys
list_same E f [] [] h = refl
list_same E f [] (y ∷ ys) h = absurd (false≢true h)
list_same E f (x ∷ xs) [] h = absurd (false≢true h)
list_same E f (x ∷ xs) (y ∷ ys) h = let q = and_parts (E x y) (pointwise E xs ys) h in λ i. f x y q.0 i ∷ list_same E f xs ys q.1 i

body_same : (a b : Body) → same_body a b ≡ true → a ≡ b
body_same a b h =
    let cells = pointwise same_value a.cells b.cells in
    let tags = pointwise same_tag a.tags b.tags in
    let q = and_parts (same_kind a.kind b.kind && cells && (a.flags == b.flags)) tags h in
    let r = and_parts (same_kind a.kind b.kind && cells) (a.flags == b.flags) q.0 in
    let s = and_parts (same_kind a.kind b.kind) cells r.0 in
    let k : a.kind ≡ b.kind = kind_same a.kind b.kind s.0 in
    let c : a.cells ≡ b.cells = list_same same_value value_same a.cells b.cells s.1 in
    let f : a.flags ≡ b.flags = eqb-true a.flags b.flags r.1 in
    let t : a.tags ≡ b.tags = list_same same_tag tag_same a.tags b.tags q.1 in
    λ i. record { kind = k i; cells = c i; flags = f i; tags = t i }

-- what passes the test is among those that do
has_filter : (p : ℕ → Bool) (xs : List ℕ) (x : ℕ) → has xs x ≡ true → p x ≡ true → has (filter p xs) x ≡ true
has_filter p [] x h k = absurd (false≢true h)
has_filter p (y ∷ ys) x h k = elim (or_cases (y == x) (has ys x) h) [
  | inl e ↦ subst (λ (c : Bool). has (cond c (y ∷ filter p ys) (filter p ys)) x ≡ true) (sym (ap p (eqb-true y x e) ∙ k)) (or_left (y == x) (has (filter p ys) x) e)
  | inr e ↦ cond_both (p y) (y ∷ filter p ys) (filter p ys) (λ l. has l x ≡ true) (λ _. or_right (y == x) (has (filter p ys) x) (has_filter p ys x e k)) (λ _. has_filter p ys x e k)
]

each_has : (Q : ℕ → Type 0) (ids : List ℕ) (id : ℕ) → AllByRecursion Q ids → has ids id ≡ true → Q id
each_has Q [] id a h = absurd (false≢true h)
each_has Q (x ∷ xs) id a h = elim (or_cases (x == id) (has xs id) h) [ inl e ↦ subst Q (eqb-true x id e) a.0 | inr e ↦ each_has Q xs id a.1 e ]

untouched_not : (changed : List ℕ) (f : Failed) (id : ℕ) → is_untouched changed f ≡ true → has f.touched id ≡ true → has changed id ≡ false
untouched_not changed f id h k =
    each_has (λ n. has changed n ≡ false) f.touched id (none_of (has changed) f.touched (not-true (list_any (has changed) f.touched) h)) k

abbrev differs : Option Body → Option Body → Bool
differs (Some a) (Some b) = not (same_body a b)
differs (Some a) None = false
differs None o = false

module _ (S : Plain) (c : Changes) where
  abbrev T : Plain
  T = apply_changes S c

  still_there : (id : ℕ) → id < length S.bodies → id < length T.bodies
  still_there id l = let put = put_bodies S c.bodies S.bodies in omega (arith, l, put_length S c.bodies S.bodies, length-append put (map (body_in S) c.made))

  not_changed : (id : ℕ) → id < length S.bodies → has (changed_objects S T) id ≡ false → differs (slice_get S.bodies id) (slice_get T.bodies id) ≡ false
  not_changed id l h =
      false_from_ne_true (differs (slice_get S.bodies id) (slice_get T.bodies id)) (λ k.
      false≢true (sym h ∙ has_filter (λ n. differs (slice_get S.bodies n) (slice_get T.bodies n)) (range_with_len 0 (length S.bodies)) id (has_range 0 (length S.bodies) id (omega arith) (omega (arith, l))) k))

  same_there : (o p : Option Body) → (o ≡ None → ⊥) → (p ≡ None → ⊥) → differs o p ≡ false → o ≡ p
  same_there None p a b h = absurd (a refl)
  same_there (Some x) None a b h = absurd (b refl)
  same_there (Some x) (Some y) a b h = ap (λ (z : Body). Some z) (body_same x y (not-false (same_body x y) h))

  there : (bodies : List Body) (id : ℕ) → id < length bodies → slice_get bodies id ≡ None → ⊥
  there [] id l e = absurd (omega arith)
  there (x ∷ xs) zero l e = none-some x (sym e)
  there (x ∷ xs) (suc n) l e = there xs n (omega arith) e

  untouched_body : (f : Failed) (id : ℕ) → is_untouched (changed_objects S T) f ≡ true → has f.touched id ≡ true → id < length S.bodies → slice_get S.bodies id ≡ slice_get T.bodies id
  untouched_body f id h k l =
      same_there (slice_get S.bodies id) (slice_get T.bodies id) (there S.bodies id l) (there T.bodies id (still_there id l)) (not_changed id l (untouched_not (changed_objects S T) f id h k))

  untouched_enabled : (P : TypedProgram) (f : Failed) → IsEnabled P S f.v → All (λ id. has f.touched id ≡ true) f.v.objects → is_untouched (changed_objects S T) f ≡ true → IsEnabled P T f.v
  untouched_enabled P f on named h =
      let e = enabled_of P S f.v on in
      let low = taken_there S e.task f.v.tags e.task.params f.v.objects e.taken in
      sym
      (named_alone P S T f.v (λ k d l. untouched_body f (get_or f.v.objects k d) h (named k d l) (below f.v.objects low.1 k d l))
      (λ k d l.
      let n = get_or f.v.tags k d in
      let own = slice_get-get_or S.tags n 0 (e.present k d l) in
      own ∙ sym (get_front S.tags c.tags n (slice_get_within S.tags n (get_or S.tags n 0) own) ∙ own)))
      ∙ on
    where
      below : (ids : List ℕ) → AllByRecursion (λ id. id < length S.bodies) ids → (k d : ℕ) → k < length ids → get_or ids k d < length S.bodies
      below [] a k d l = absurd (omega arith)
      below (x ∷ xs) a zero d l = a.0
      below (x ∷ xs) a (suc k) d l = below xs a.1 k d (omega arith)

pub untouched_keeps : UntouchedKeeps
untouched_keeps = record {
  same = body_same;
  body = untouched_body;
  enabled = λ P S c f on named h. untouched_enabled S c P f on named h;
}

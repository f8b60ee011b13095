-- In its own store no body has moved.
use Rattle.std.proofs.Common.{◌≡◌, ℕ, Bool, true, false, ◌==◌, List, [], ◌∷◌, cond, Option, Some, None, refl, ap, ◌∙◌, arith}
use Rattle.std.specs.Prelude.{slice_get}
use Rattle.std.specs.Cmp.Lexicographic.{pointwise}
use Rattle.std.specs.List.{find}
use Rattle.std.proofs.lemmas.Bool.{and_from, eq-eqb, not_from_true}
use Rattle.std.proofs.lemmas.Cmp.{int_eq_equiv}
use Rattle.bc_data.specs.declared.run.Body.{Body}
use Rattle.bc_data.specs.declared.run.Kind.{Kind}
use Rattle.bc_data.specs.declared.run.Kind.TheVariants as kind
use Rattle.bc_data.specs.declared.run.TagRef.{TagRef}
use Rattle.bc_data.specs.declared.run.TagRef.TheVariants as tag
use Rattle.bc_data.specs.declared.run.Value.{Value}
use Rattle.bc_data.specs.declared.run.Value.TheVariants as value
use Rattle.bc_mean.specs.declared.plain.Plain.{Plain}
use Rattle.bc_mean.specs.Changes.{same_body, same_kind}
use Rattle.bc_mean.specs.Values.{same_tag, same_value}
use Rattle.bc_mean.specs.Work.{look_of}
use Rattle.bc_book_events.specs.Events.{first_moved, is_moved}

value_itself : (x : Value) → same_value x x ≡ true
value_itself (value.Int n) = int_eq_equiv.refl n
value_itself (value.Bool true) = refl
value_itself (value.Bool false) = refl
value_itself value.Null = refl
value_itself (value.Old n) = eq-eqb n n refl
value_itself (value.New n) = eq-eqb n n refl

tag_itself : (t : TagRef) → same_tag t t ≡ true
tag_itself (tag.Old n) = eq-eqb n n refl
tag_itself (tag.New n) = eq-eqb n n refl

kind_itself : (k : Kind) → same_kind k k ≡ true
kind_itself (kind.Class c) = eq-eqb c c refl
kind_itself kind.Ints = refl
kind_itself kind.Bools = refl
kind_itself (kind.Objects c) = eq-eqb c c refl

list_itself : {X : Type 0} (E : X → X → Bool) → ((x : X) → E x x ≡ true) → (xs : List X) → pointwise E xs xs ≡ true
list_itself E h [] = refl
list_itself E h (x ∷ xs) = and_from (E x x) (pointwise E xs xs) (h x) (list_itself E h xs)

pub body_itself : (b : Body) → same_body b b ≡ true
body_itself b =
    let k = kind_itself b.kind in
    let cs = list_itself same_value value_itself b.cells in
    let f : (b.flags == b.flags) ≡ true = eq-eqb b.flags b.flags refl in
    let ts = list_itself same_tag tag_itself b.tags in
    grind (arith, k, cs, f, ts)

stays : (o : Option Body) → is_moved o o ≡ false
stays None = refl
stays (Some b) = not_from_true (same_body b b) (body_itself b)

none_found : {X : Type 0} (test : X → Bool) → ((x : X) → test x ≡ false) → (xs : List X) → find test xs ≡ None
none_found test h [] = refl
none_found test h (x ∷ xs) = ap (λ (c : Bool). cond c (Some x) (find test xs)) (h x) ∙ none_found test h xs

pub none_moved : (S : Plain) (objects : List ℕ) → first_moved S (look_of S) objects ≡ None
none_moved S objects = none_found (λ id. is_moved (slice_get S.bodies id) (slice_get S.bodies id)) (λ id. stays (slice_get S.bodies id)) objects

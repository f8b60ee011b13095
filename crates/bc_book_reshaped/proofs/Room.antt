-- What each reshaped object asks for, and what all of them ask for together.
use Rattle.std.proofs.Common.{◌≡◌, ℕ, ◌+◌, ◌*◌, ◌<◌, ◌≤◌, List, [], ◌∷◌, length, Option, Some, None, refl, sym, ap, subst, ◌∙◌, arith}
use Rattle.std.specs.Prelude.{All, IfSome, slice_get, sum_by, option_map}
use Rattle.std.proofs.lemmas.List.Elements.{All-same}
use Rattle.std.proofs.lemmas.List.Sums.{sum_by-cons, sum_by-le}
use Rattle.std.proofs.lemmas.Option.{get_or_from_slice_get, slice_get_past, slice_get_within}
use Rattle.bc_data.specs.Typed.{TypedProgram}
use Rattle.bc_data.specs.declared.run.Kind.{Kind}
use Rattle.bc_data.specs.declared.run.Kind.TheVariants as kind
use Rattle.bc_data.specs.declared.run.TagRef.{TagRef}
use Rattle.bc_data.specs.declared.run.TagRef.TheVariants as tag
use Rattle.bc_data.specs.declared.run.Body.{Body}
use Rattle.bc_data.specs.declared.run.Written.{Written}
use Rattle.bc_data.specs.declared.run.Changes.{Changes}
use Rattle.bc_mean.specs.declared.plain.Plain.{Plain}
use Rattle.bc_mean.specs.Store.{Fits, FitsAs, IsPresentTag}
use Rattle.bc_mean.specs.Work.{look_of}
use Rattle.bc_mean.proofs.Lists.{Chain}
use Rattle.bc_store.specs.Store.{CanPublish}
use Rattle.bc_params.specs.Laws.{IsTyped, AreTyped}
use Rattle.bc_params.specs.Look.{HaveOneKind, class_of, class_of_either, tags_in}
use Rattle.bc_params.specs.Places.{bodies_in, params_of, tags_of_changes}
use Rattle.bc_book_reshaped.specs.declared.reshaped.Reshaped.{Reshaped}
use Rattle.bc_book_reshaped.specs.declared.reshaped.Reshaped.TheVariants as object
use Rattle.bc_book_reshaped.specs.Reshaped.{after_of, before_of, guard_tests, reshaped_in, IsThere, KindsStay}
use Rattle.bc_book_reshaped.proofs.Puts.{Below}
use Rattle.bc_book_reshaped.proofs.Members.{each_reshaped, sum_reshaped, reshaped_chain, new_at}

-- what holds of each holds of the one at this place
each_get : {X : Type 0} (P : X → Type 0) (xs : List X) (k : ℕ) (x : X) → All P xs → slice_get xs k ≡ Some x → P x
each_get P xs k x a e = subst P (get_or_from_slice_get xs k x x e) (a k x (slice_get_within xs k x e))

-- the body that is written at this place
written_at : (c : Changes) (w : Written) (at : ℕ) → slice_get c.bodies at ≡ Some w → after_of c (object.Written w.id at) ≡ Some w.body
written_at c w at e = ap (option_map (λ (v : Written). v.body)) e

-- a new object is not in the store
not_there : (S : Plain) (at : ℕ) → before_of S (new_at (length S.bodies) at) ≡ None
not_there S at = slice_get_past S.bodies (length S.bodies + at) (omega arith)

one_kind : (o : Option Body) (b : Body) → IfSome o (λ a. b.kind ≡ a.kind) → HaveOneKind o (Some b)
one_kind None b h = tt
one_kind (Some a) b h = sym h

pub kind_back : (o p : Option Body) → HaveOneKind o p → HaveOneKind p o
kind_back None None h = tt
kind_back None (Some b) h = tt
kind_back (Some a) None h = tt
kind_back (Some a) (Some b) h = sym h

-- what the sets take for granted of these objects
pub record AreReshaped (S : Plain) (c : Changes) (ms : List Reshaped) : Type 0 where
  pub there : All (IsThere S) ms
  pub kinds : All (λ m. HaveOneKind (before_of S m) (after_of c m)) ms
  pub chain : Chain Below ms

pub are_reshaped : (S : Plain) (c : Changes) (ms : List Reshaped) → ms ≡ reshaped_in S c → CanPublish S c → KindsStay S c → AreReshaped S c ms
are_reshaped S c ms is can kinds = record {
  there = All-same (IsThere S) ms (reshaped_in S c) is (each_reshaped S c (IsThere S)
      (λ w at e. each_get (λ (v : Written). v.id < length S.bodies) c.bodies at w can.there.present e)
      (λ b at e. omega arith));
  kinds = All-same (λ m. HaveOneKind (before_of S m) (after_of c m)) ms (reshaped_in S c) is (each_reshaped S c (λ m. HaveOneKind (before_of S m) (after_of c m))
      (λ w at e. subst (HaveOneKind (slice_get S.bodies w.id)) (sym (written_at c w at e))
      (one_kind (slice_get S.bodies w.id) w.body (each_get (λ (v : Written). IfSome (slice_get S.bodies v.id) (λ b. v.body.kind ≡ b.kind)) c.bodies at w kinds e)))
      (λ b at e. subst (λ (o : Option Body). HaveOneKind o (slice_get c.made at)) (sym (not_there S at)) tt));
  chain = subst (Chain Below) (sym is) (reshaped_chain S c can.ascending can.there.present);
}

-- how often guards are tested at most where this object is reshaped
abbrev pub tests_of : TypedProgram → Plain → Changes → Reshaped → ℕ
tests_of P S c m = params_of (class_of_either (before_of S m) (after_of c m)) P.tasks

either_kind : (o : Option Body) (b : Body) → HaveOneKind o (Some b) → class_of_either o (Some b) ≡ class_of b.kind
either_kind None b h = refl
either_kind (Some a) b h = ap class_of h

same_le : (m n : ℕ) → m ≡ n → m ≤ n
same_le m n e = omega arith

pub tests_sum : (P : TypedProgram) (S : Plain) (c : Changes) → KindsStay S c → sum_by (tests_of P S c) (reshaped_in S c) ≤ guard_tests P c
tests_sum P S c kinds = sum_reshaped S c (tests_of P S c) (λ w. params_of (class_of w.body.kind) P.tasks) (λ b. params_of (class_of b.kind) P.tasks)
    (λ w at e. same_le (tests_of P S c (object.Written w.id at)) (params_of (class_of w.body.kind) P.tasks) (ap (λ (class : Option ℕ). params_of class P.tasks)
    (ap (class_of_either (slice_get S.bodies w.id)) (written_at c w at e)
    ∙ either_kind (slice_get S.bodies w.id) w.body (one_kind (slice_get S.bodies w.id) w.body (each_get (λ (v : Written). IfSome (slice_get S.bodies v.id) (λ b. v.body.kind ≡ b.kind)) c.bodies at w kinds e)))))
    (λ b at e. same_le (tests_of P S c (new_at (length S.bodies) at)) (params_of (class_of b.kind) P.tasks) (ap (λ (class : Option ℕ). params_of class P.tasks)
    (ap (λ (o : Option Body). class_of_either o (slice_get c.made at)) (not_there S at) ∙ ap (class_of_either None) e)))

-- how many instances come in, and how many come back
abbrev pub tags_after : Changes → Reshaped → ℕ
tags_after c m = length (tags_in (after_of c m))

abbrev pub tags_before : Plain → Reshaped → ℕ
tags_before S m = length (tags_in (before_of S m))

pub tags_sum : (S : Plain) (c : Changes) → sum_by (tags_after c) (reshaped_in S c) ≤ tags_of_changes c
tags_sum S c = sum_reshaped S c (tags_after c) (λ w. length w.body.tags) (λ b. length b.tags)
    (λ w at e. same_le (tags_after c (object.Written w.id at)) (length w.body.tags) (ap (λ (o : Option Body). length (tags_in o)) (written_at c w at e)))
    (λ b at e. same_le (tags_after c (new_at (length S.bodies) at)) (length b.tags) (ap (λ (o : Option Body). length (tags_in o)) e))

sum_ones : {X : Type 0} (xs : List X) → sum_by (λ x. 1) xs ≡ length xs
sum_ones [] = refl
sum_ones (x ∷ xs) = omega (arith, sum_by-cons (λ y. 1) x xs, sum_ones xs)

pub reshaped_count : (S : Plain) (c : Changes) → length (reshaped_in S c) ≤ bodies_in c
reshaped_count S c =
    let h : sum_by (λ m. 1) (reshaped_in S c) ≤ sum_by (λ w. 1) c.bodies + sum_by (λ b. 1) c.made = sum_reshaped S c (λ m. 1) (λ w. 1) (λ b. 1) (λ w at e. omega arith) (λ b at e. omega arith) in
    omega (arith, h, sum_ones (reshaped_in S c), sum_ones c.bodies, sum_ones c.made)

-- objects of a store that fits have at most 16 instances, each with a type
few : (P : TypedProgram) (S : Plain) (k : Kind) (b : Body) → FitsAs P S k b → length b.tags ≤ 16
few P S (kind.Class c) b h = h.few_tags
few P S kind.Ints b h = omega (arith, ap length h.tags)
few P S kind.Bools b h = omega (arith, ap length h.tags)
few P S (kind.Objects c) b h = omega (arith, ap length h.1.tags)

few_in : (P : TypedProgram) (S : Plain) (o : Option Body) → IfSome o (λ b. FitsAs P S b.kind b) → length (tags_in o) ≤ 16
few_in P S None h = omega arith
few_in P S (Some b) h = few P S b.kind b h

fits_there : (P : TypedProgram) (S : Plain) → Fits P S → (x : ℕ) (o : Option Body) → slice_get S.bodies x ≡ o → IfSome o (λ b. FitsAs P S b.kind b)
fits_there P S f x None e = tt
fits_there P S f x (Some b) e = each_get (λ (a : Body). FitsAs P S a.kind a) S.bodies x b f.bodies e

pub back_sum : (P : TypedProgram) (S : Plain) (c : Changes) → Fits P S → sum_by (tags_before S) (reshaped_in S c) ≤ 16 * length c.bodies
back_sum P S c f =
    let h : sum_by (tags_before S) (reshaped_in S c) ≤ sum_by (λ w. 16) c.bodies + sum_by (λ b. 0) c.made = sum_reshaped S c (tags_before S) (λ w. 16) (λ b. 0)
    (λ w at e. few_in P S (slice_get S.bodies w.id) (fits_there P S f w.id (slice_get S.bodies w.id) refl))
    (λ b at e. same_le (tags_before S (new_at (length S.bodies) at)) 0 (ap (λ (o : Option Body). length (tags_in o)) (not_there S at))) in
    omega (arith, h, sum_by-le (λ (w : Written). 16) 16 c.bodies (λ k d l. omega arith), sum_by-le (λ (b : Body). 0) 0 c.made (λ k d l. omega arith))

typed_tag : (S : Plain) (t : TagRef) → IsPresentTag S t → IsTyped S.tags t
typed_tag S (tag.Old n) h = h
typed_tag S (tag.New n) h = absurd h

no_tags : (types : List ℕ) (ts : List TagRef) → ts ≡ [] → All (IsTyped types) ts
no_tags types ts e = All-same (IsTyped types) ts [] e (λ k d h. absurd (omega arith))

typed_as : (P : TypedProgram) (S : Plain) (k : Kind) (b : Body) → FitsAs P S k b → All (IsTyped S.tags) b.tags
typed_as P S (kind.Class c) b h = λ k d l. typed_tag S _ (h.present_tags k d l)
typed_as P S kind.Ints b h = no_tags S.tags b.tags h.tags
typed_as P S kind.Bools b h = no_tags S.tags b.tags h.tags
typed_as P S (kind.Objects c) b h = no_tags S.tags b.tags h.1.tags

typed_in : (P : TypedProgram) (S : Plain) (o : Option Body) → IfSome o (λ b. FitsAs P S b.kind b) → AreTyped S.tags o
typed_in P S None h = tt
typed_in P S (Some b) h = typed_as P S b.kind b h

pub all_typed : (P : TypedProgram) (S : Plain) → Fits P S → (x : ℕ) → AreTyped S.tags (look_of S x)
all_typed P S f x = typed_in P S (slice_get S.bodies x) (fits_there P S f x (slice_get S.bodies x) refl)

-- The bodies after all objects are reshaped are, but for cells, those of the store with the changes.
use Rattle.std.proofs.Common.{◌≡◌, ℕ, zero, suc, ◌+◌, ◌<◌, inl, inr, false, ◌==◌, List, [], ◌∷◌, ◌++◌, length, map, set, Option, Some, None, refl, sym, ap, ap₂, ◌∙◌, subst, arith, append-nil, append_assoc}
use Rattle.std.specs.Prelude.{option_map, slice_get}
use Rattle.std.specs.List.{AllByRecursion, range_with_len}
use Rattle.std.proofs.lemmas.Bool.{cases_Bool, cases_lt, cond_both, cond-true, cond-false, eqb-true, eqb-false, not-false, true≢false}
use Rattle.std.proofs.lemmas.List.{length-set, length_push}
use Rattle.std.proofs.lemmas.List.Elements.{recursion_from_All}
use Rattle.std.proofs.lemmas.Option.{slice_get_past, slice_get_within}
use Rattle.bc_data.specs.declared.run.Value.{Value}
use Rattle.bc_data.specs.declared.run.Value.TheVariants as value
use Rattle.bc_data.specs.declared.run.TagRef.{TagRef}
use Rattle.bc_data.specs.declared.run.TagRef.TheVariants as tag
use Rattle.bc_data.specs.declared.run.Body.{Body}
use Rattle.bc_data.specs.declared.run.Written.{Written}
use Rattle.bc_data.specs.declared.run.Changes.{Changes}
use Rattle.bc_mean.specs.declared.plain.Plain.{Plain}
use Rattle.bc_mean.specs.Changes.{value_in, tag_in, body_in, put_bodies, apply_changes}
use Rattle.bc_mean.specs.Work.{look_of}
use Rattle.bc_mean.proofs.Lists.{Chain, chain_from_pairs}
use Rattle.bc_store.specs.Resolved.{IsOldValue, IsOldTag, IsOldBody, IsResolved}
use Rattle.bc_store.specs.Store.{CanPublish}
use Rattle.bc_params.specs.Look.{put_look}
use Rattle.bc_book_events.specs.Reshaped.{bare}
use Rattle.bc_book_events.proofs.Appended.{set_else, put_length, get_front}
use Rattle.bc_book_reshaped.specs.declared.reshaped.Reshaped.TheVariants as object
use Rattle.bc_book_reshaped.specs.Reshaped.{after_of, differs_from, is_reshaped, same_shape, written_reshaped, made_reshaped, reshaped_in}
use Rattle.bc_book_reshaped.specs.Laws.{ReshapedAreAll}
use Rattle.bc_book_reshaped.proofs.Puts.{puts, puts_append, puts_else}
use Rattle.bc_book_reshaped.proofs.Members.{StandsAt, stands_head, stands_tail, stands_all, new_at}
use Rattle.bc_book_reshaped.proofs.Shapes.{shape_bare}

-- a body that has its numbers stays as it is
value_stays : (S : Plain) (v : Value) → IsOldValue v → value_in S v ≡ v
value_stays S (value.New n) h = absurd h
value_stays S (value.Int n) h = refl
value_stays S (value.Bool b) h = refl
value_stays S value.Null h = refl
value_stays S (value.Old n) h = refl

tag_stays : (S : Plain) (t : TagRef) → IsOldTag t → tag_in S t ≡ t
tag_stays S (tag.New n) h = absurd h
tag_stays S (tag.Old n) h = refl

each_stays : {X : Type 0} (f : X → X) (P : X → Type 0) → ((x : X) → P x → f x ≡ x) → (xs : List X) → AllByRecursion P xs → map f xs ≡ xs
each_stays f P h [] a = refl
each_stays f P h (x ∷ xs) a = ap₂ (λ y ys. y ∷ ys) (h x a.0) (each_stays f P h xs a.1)

abbrev with_parts : Body → List Value → List TagRef → Body
with_parts b cells tags = record b { cells = cells; tags = tags }

body_stays : (S : Plain) (b : Body) → IsOldBody b → body_in S b ≡ b
body_stays S b h = ap₂ (with_parts b) (each_stays (value_in S) IsOldValue (value_stays S) b.cells (recursion_from_All IsOldValue b.cells h.cells))
    (each_stays (tag_in S) IsOldTag (tag_stays S) b.tags (recursion_from_All IsOldTag b.tags h.tags))

-- a list with an element replaced, or one more
set_same : {X : Type 0} (xs : List X) (i : ℕ) (x : X) → i < length xs → slice_get (set xs i x) i ≡ Some x
set_same [] i x h = absurd (omega arith)
set_same (y ∷ ys) zero x h = refl
set_same (y ∷ ys) (suc i) x h = set_same ys i x (omega arith)

set_look : (bodies : List Body) (id : ℕ) (b : Body) (x : ℕ) → id < length bodies → slice_get (set bodies id b) x ≡ put_look id (Some b) (slice_get bodies) x
set_look bodies id b x h = elim (cases_Bool (x == id)) [
  | inl s ↦ ap (slice_get (set bodies id b)) (eqb-true x id s) ∙ (set_same bodies id b h ∙ sym (cond-true (x == id) (Some b) (slice_get bodies x) s))
  | inr s ↦ set_else bodies id x b (λ e. eqb-false x id s (sym e)) ∙ sym (cond-false (x == id) (Some b) (slice_get bodies x) s)
]

get_last : {X : Type 0} (xs : List X) (x : X) → slice_get (xs ++ x ∷ []) (length xs) ≡ Some x
get_last [] x = refl
get_last (y ∷ ys) x = get_last ys x

push_look : (front : List Body) (b : Body) (x : ℕ) → slice_get (front ++ b ∷ []) x ≡ put_look (length front) (Some b) (slice_get front) x
push_look front b x = elim (cases_Bool (x == length front)) [
  | inl s ↦ ap (slice_get (front ++ b ∷ [])) (eqb-true x (length front) s) ∙ (get_last front b ∙ sym (cond-true (x == length front) (Some b) (slice_get front x) s))
  | inr s ↦ elim (cases_lt x (length front)) [
    | inl l ↦ get_front front (b ∷ []) x l ∙ sym (cond-false (x == length front) (Some b) (slice_get front x) s)
    | inr l ↦
        let ne : x ≡ length front → ⊥ = eqb-false x (length front) s in
        slice_get_past (front ++ b ∷ []) x (omega (arith, length_push front b, ne, l)) ∙ (sym (slice_get_past front x l) ∙ sym (cond-false (x == length front) (Some b) (slice_get front x) s))
  ]
]

-- the same bodies but for cells
abbrev pub Alike : (ℕ → Option Body) → (ℕ → Option Body) → Type 0
Alike look other = (x : ℕ) → option_map bare (look x) ≡ option_map bare (other x)

put_both : (id : ℕ) (o : Option Body) (look other : ℕ → Option Body) → Alike look other → Alike (put_look id o look) (put_look id o other)
put_both id o look other a x = elim (cases_Bool (x == id)) [
  | inl s ↦ ap (option_map bare) (cond-true (x == id) o (look x) s ∙ sym (cond-true (x == id) o (other x) s))
  | inr s ↦ ap (option_map bare) (cond-false (x == id) o (look x) s) ∙ (a x ∙ sym (ap (option_map bare) (cond-false (x == id) o (other x) s)))
]

put_other : (id : ℕ) (b : Body) (look other : ℕ → Option Body) → Alike look other → option_map bare (other id) ≡ Some (bare b) → Alike look (put_look id (Some b) other)
put_other id b look other a h x = elim (cases_Bool (x == id)) [
  | inl s ↦ a x ∙ (ap (λ n. option_map bare (other n)) (eqb-true x id s) ∙ (h ∙ sym (ap (option_map bare) (cond-true (x == id) (Some b) (other x) s))))
  | inr s ↦ a x ∙ sym (ap (option_map bare) (cond-false (x == id) (Some b) (other x) s))
]

unshaped : (o : Option Body) (b : Body) → differs_from o b ≡ false → option_map bare o ≡ Some (bare b)
unshaped None b h = absurd (true≢false h)
unshaped (Some a) b h = ap (λ (z : Body). Some z) (shape_bare a b (not-false (same_shape a b) h))

-- bodies that are not yet replaced
abbrev IsAsBefore : Plain → List Body → Written → Type 0
IsAsBefore S bodies w = slice_get bodies w.id ≡ slice_get S.bodies w.id

still_before : (S : Plain) (x : ℕ) (b : Body) (bodies : List Body) (ws : List Written) → AllByRecursion (λ id. x < id) (map (λ (w : Written). w.id) ws) → AllByRecursion (IsAsBefore S bodies) ws → AllByRecursion (IsAsBefore S (set bodies x b)) ws
still_before S x b bodies [] l h = tt
still_before S x b bodies (w ∷ ws) l h =
    let low : x < w.id = l.0 in
    (set_else bodies x w.id b (λ e. omega (arith, e, low)) ∙ h.0, still_before S x b bodies ws l.1 h.1)

module _ (S : Plain) (c : Changes) where
  written_alike :
      (at : ℕ) (ws : List Written) (bodies : List Body) (look : ℕ → Option Body)
      → StandsAt at ws c.bodies
      → AllByRecursion (λ w. IsOldBody w.body) ws
      → AllByRecursion (λ w. w.id < length bodies) ws
      → Chain (λ (x y : ℕ). x < y) (map (λ (w : Written). w.id) ws)
      → AllByRecursion (IsAsBefore S bodies) ws
      → Alike look (slice_get bodies)
      → Alike (puts (after_of c) (written_reshaped S at ws) look) (slice_get (put_bodies S ws bodies))
  written_alike at [] bodies look s old there up before a x = a x
  written_alike at (w ∷ ws) bodies look s old there up before a x =
      let new = set bodies w.id (body_in S w.body) in
      let put : (y : ℕ) → put_look w.id (Some w.body) (slice_get bodies) y ≡ slice_get new y = λ y.
      sym (set_look bodies w.id (body_in S w.body) y there.0 ∙ ap (λ (b : Body). put_look w.id (Some b) (slice_get bodies) y) (body_stays S w.body old.0)) in
      let within : AllByRecursion (λ v. v.id < length new) ws = subst (λ (n : ℕ). AllByRecursion (λ v. v.id < n) ws) (sym (length-set bodies w.id (body_in S w.body))) there.1 in
      let after : after_of c (object.Written w.id at) ≡ Some w.body = ap (option_map (λ (v : Written). v.body)) (stands_head at w ws c.bodies s) in
      let rest : (l : ℕ → Option Body) → Alike l (slice_get new) → Alike (puts (after_of c) (written_reshaped S (at + 1) ws) l) (slice_get (put_bodies S ws new)) = λ l h.
      written_alike (at + 1) ws new l (stands_tail at w ws c.bodies s) old.1 within up.1 (still_before S w.id (body_in S w.body) bodies ws up.0 before.1) h in
      cond_both (is_reshaped S w) (object.Written w.id at ∷ written_reshaped S (at + 1) ws) (written_reshaped S (at + 1) ws)
      (λ ms. option_map bare (puts (after_of c) ms look x) ≡ option_map bare (slice_get (put_bodies S ws new) x))
      (λ _. rest (put_look w.id (after_of c (object.Written w.id at)) look) (λ y. ap (λ o. option_map bare (put_look w.id o look y)) after ∙ (put_both w.id (Some w.body) look (slice_get bodies) a y ∙ ap (option_map bare) (put y))) x)
      (λ same. rest look (λ y. put_other w.id w.body look (slice_get bodies) a (ap (option_map bare) before.0 ∙ unshaped (slice_get S.bodies w.id) w.body same) y ∙ ap (option_map bare) (put y)) x)

  made_alike :
      (at : ℕ) (bs front : List Body) (look : ℕ → Option Body)
      → StandsAt at bs c.made
      → length front ≡ length S.bodies + at
      → Alike look (slice_get front)
      → Alike (puts (after_of c) (map (new_at (length S.bodies)) (range_with_len at (length bs))) look) (slice_get (front ++ bs))
  made_alike at [] front look s e a x = a x ∙ ap (λ (bs : List Body). option_map bare (slice_get bs x)) (sym (append-nil front))
  made_alike at (b ∷ bs) front look s e a x =
      let id = length S.bodies + at in
      let size : length (front ++ b ∷ []) ≡ length S.bodies + (at + 1) = omega (arith, length_push front b, e) in
      let put : Alike (put_look id (slice_get c.made at) look) (slice_get (front ++ b ∷ [])) = λ y.
      ap (λ o. option_map bare (put_look id o look y)) (stands_head at b bs c.made s)
      ∙ (put_both id (Some b) look (slice_get front) a y
      ∙ (ap (λ n. option_map bare (put_look n (Some b) (slice_get front) y)) (sym e) ∙ sym (ap (option_map bare) (push_look front b y)))) in
      made_alike (at + 1) bs (front ++ b ∷ []) (put_look id (slice_get c.made at) look) (stands_tail at b bs c.made s) size put x
      ∙ ap (λ (bs : List Body). option_map bare (slice_get bs x)) (append_assoc front (b ∷ []) bs)

  pub reshaped_alike : CanPublish S c → IsResolved c → Alike (puts (after_of c) (reshaped_in S c) (look_of S)) (look_of (apply_changes S c))
  reshaped_alike can old x =
      let written = written_reshaped S 0 c.bodies in
      let made = made_reshaped (length S.bodies) (length c.made) in
      let front = put_bodies S c.bodies S.bodies in
      let size : length front ≡ length S.bodies + 0 = omega (arith, put_length S c.bodies S.bodies) in
      let stays : map (body_in S) c.made ≡ c.made = each_stays (body_in S) IsOldBody (body_stays S) c.made (recursion_from_All IsOldBody c.made old.made) in
      ap (λ (l : ℕ → Option Body). option_map bare (l x)) (puts_append (after_of c) written made (look_of S))
      ∙ (made_alike 0 c.made front (puts (after_of c) written (look_of S)) (stands_all c.made) size
      (written_alike 0 c.bodies S.bodies (look_of S) (stands_all c.bodies)
      (recursion_from_All (λ (w : Written). IsOldBody w.body) c.bodies old.bodies)
      (recursion_from_All (λ (w : Written). w.id < length S.bodies) c.bodies can.there.present)
      (chain_from_pairs (λ (i j : ℕ). i < j) (map (λ (w : Written). w.id) c.bodies) can.ascending)
      (as_before c.bodies)
      (λ y. refl)) x
      ∙ ap (λ (bs : List Body). option_map bare (slice_get (front ++ bs) x)) (sym stays))
    where
      as_before : (ws : List Written) → AllByRecursion (IsAsBefore S S.bodies) ws
      as_before [] = tt
      as_before (w ∷ ws) = (refl, as_before ws)

pub all_reshaped : ReshapedAreAll
all_reshaped S c can old = record {
  bodies = λ id h. ap (option_map bare) (sym (puts_else (after_of c) (reshaped_in S c) (look_of S) id h)) ∙ reshaped_alike S c can old id;
  types = λ n type e. get_front S.tags c.tags n (slice_get_within S.tags n type e) ∙ e;
}
